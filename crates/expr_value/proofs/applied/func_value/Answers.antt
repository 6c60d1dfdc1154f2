use Rattle.std.proofs.Common.{map}
use Rattle.expr_value.proofs.Given.{more_given, stop_told}
use Rattle.expr_value.proofs.applied.func_value.Goals as goal
use Rattle.expr_scope.specs.Slots.{slot_of}
use Rattle.expr_model.specs.Functions.{value_of}
use Rattle.vector_model.specs.Faults.{unbuilt}
use Rattle.session_model.specs.Expression.{slot_vector}
use Rattle.valued.specs.Valued.{valued_of}

-- no other number of arguments is served
pub returns-in-len4-up-clause-answer : goal.returns-in-len4-up-clause-answer
returns-in-len4-up-clause-answer g c =
    stop_told valued_of (value_of c.args.f (map slot_vector (map slot_of c.args.given.now)))
    unbuilt c.stop_unbuilt-in-len4-up.result
    (more_given c.args.f c.args.given.now c.in-len4-up.len_at_least) c.stop_unbuilt-in-len4-up.ensures.fault
