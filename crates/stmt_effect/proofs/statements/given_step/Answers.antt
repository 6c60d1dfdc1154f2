use Rattle.std.proofs.Common.{Option, Result, Ok, subst, sym}
use Rattle.dt_base.specs.declared.fault.Fault.{Fault}
use Rattle.dt_world.specs.Told.{FileMap}
use Rattle.eval_fail.specs.Answers.{AnswersAs}
use Rattle.session_model.specs.Meaning.{meaning}
use Rattle.session_model.specs.Statement.{value_effect}
use Rattle.stmt_change.specs.Effects.{plain_effect}
use Rattle.stmt_effect.proofs.Indexed.{lacks_memory, same_given}
use Rattle.stmt_value.specs.Values.{plain_given, scene}
use Rattle.table_heap.specs.State.{state_of}
use Rattle.stmt_effect.proofs.statements.given_step.Goals as goal

pub returns-in-Ok-clause-answer : goal.returns-in-Ok-clause-answer
returns-in-Ok-clause-answer g c = λ held.
    let h = c.args.setting.now.heap.now in
    subst (λ x. AnswersAs (plain_effect h) (value_effect c.args.target.now (state_of h) x) c.value_effect.result)
    (sym (same_given (c.in-Ok.ensures.answer held))) c.value_effect.ensures.answer

pub returns-in-Err-clause-answer : goal.returns-in-Err-clause-answer
returns-in-Err-clause-answer g c = λ held.
    let h = c.args.setting.now.heap.now in
    lacks_memory (plain_given h) (plain_effect h) _ _ c.in-Err.fail (c.in-Err.ensures.answer held)
