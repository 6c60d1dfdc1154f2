use Rattle.std.proofs.Common.{subst, sym}
use Rattle.eval_fail.specs.Answers.{AnswersAs}
use Rattle.session_model.specs.Statement.{value_effect}
use Rattle.stmt_change.specs.Effects.{plain_effect}
use Rattle.stmt_value.specs.Values.{plain_given}
use Rattle.table_heap.specs.State.{state_of}
use Rattle.stmt_effect.proofs.statements.value_effect.Goals as goal

pub returns-in-Some-clause-answer : goal.returns-in-Some-clause-answer
returns-in-Some-clause-answer g c =
    let h = c.args.heap.now in
    subst (λ t. AnswersAs (plain_effect h) (value_effect t (state_of h) (plain_given h c.args.given)) c.assigned.result)
    (sym c.in-Some.is) (c.assigned.ensures.answer h)
