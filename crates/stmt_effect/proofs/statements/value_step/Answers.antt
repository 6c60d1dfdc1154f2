use Rattle.std.proofs.Common.{ap, subst, sym}
use Rattle.eval_fail.specs.Answers.{AnswersAs}
use Rattle.file_value.proofs.NoReads.{answered}
use Rattle.session_model.specs.Meaning.{meaning}
use Rattle.session_model.specs.Statement.{value_effect, value_step}
use Rattle.session_model.specs.Value.{Scene}
use Rattle.stmt_change.specs.Effects.{plain_effect}
use Rattle.stmt_value.specs.Values.{scene}
use Rattle.vector_model.specs.Then.{then_do}
use Rattle.stmt_effect.proofs.statements.value_step.Goals as goal

pub returns-in-Ok-clause-told : goal.returns-in-Ok-clause-told
returns-in-Ok-clause-told g c told =
    let h = c.args.setting.now.heap.now in
    let w : Scene = scene (g.F.Files.held c.args.files.now) c.args.setting.now in
    let m = meaning c.args.e.now in
    answered (plain_effect h) (value_step c.args.target.now m w) c.given_step.result c.unread.result c.unread.ensures
    (subst (λ o. AnswersAs (plain_effect h) o c.given_step.result)
    (sym (ap (λ r. then_do r (λ v. value_effect c.args.target.now w.state (m.indexed w v)))
    (c.in-Ok.ensures.told told))) (c.given_step.ensures.answer (g.F.Files.held c.args.files.now)))
