use Rattle.std.proofs.Common.{subst, sym}
use Rattle.eval_fail.specs.Answers.{AnswersAs}
use Rattle.file_value.proofs.NoReads.{answered}
use Rattle.file_value.specs.Answers.{Gives}
use Rattle.session_model.specs.Meaning.{meaning}
use Rattle.session_model.specs.Value as model
use Rattle.stmt_value.specs.Values.{plain_given, scene}
use Rattle.stmt_value.proofs.values.whole.Goals as goal

pub returns-in-Some-clause-told : goal.returns-in-Some-clause-told
returns-in-Some-clause-told g c told =
    let w : model.Scene = scene (g.F.Files.held c.args.files.now) c.args.setting.now in
    answered (plain_given c.args.setting.now.heap.now) ((meaning c.args.e.now).whole w) c.report_value.result
    c.unread.result c.unread.ensures
    (subst (λ o. AnswersAs (plain_given c.args.setting.now.heap.now) o c.report_value.result)
    (sym (c.in-Some.ensures w)) c.report_value.ensures.answer)

pub returns-in-None-clause-told : goal.returns-in-None-clause-told
returns-in-None-clause-told g c told =
    subst (λ o. Gives (plain_given c.args.setting.now.heap.now) o c.value.result)
    (sym (c.in-None.ensures (scene (g.F.Files.held c.args.files.now) c.args.setting.now)))
    (c.value.ensures.told told)
