-- The words were taken, or refused.
use Rattle.std.proofs.lemmas.Result.{IfOk-weaker}
use Rattle.dt_run.specs.Given.{texts}
use Rattle.dt_run.proofs.Askings.{refused_asks, refused_lacks}
use Rattle.dt_run.proofs.words.asked_by.Goals as goal

pub returns-in-Err-clause-asked : goal.returns-in-Err-clause-asked
returns-in-Err-clause-asked c =
    IfOk-weaker c.nothing_asked.result _ _
    (λ o h. refused_asks _ (texts c.args.words.now) c.in-Err.error o c.in_ok-command.ensures c.in-Err.ensures.kinds
    h) c.nothing_asked.ensures

pub returns-in-Err-clause-lacks : goal.returns-in-Err-clause-lacks
returns-in-Err-clause-lacks c =
    IfOk-weaker c.nothing_asked.result _ _
    (λ o h. rw h.0 (refused_lacks _ (texts c.args.words.now) c.in-Err.error c.in_ok-command.ensures
    c.in-Err.ensures.passes h.1)) c.nothing_asked.ensures
