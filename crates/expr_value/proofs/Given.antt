-- A call that is given more than three arguments is not served.
use Rattle.std.proofs.Common.{◌≡◌, ◌<◌, List, [], ◌∷◌, length, map, Result, Err, refl, arith}
use Rattle.eval_fail.specs.Answers.{AnswersAs, IsStop}
use Rattle.eval_fail.specs.declared.fail.EvalFail.{EvalFail}
use Rattle.eval_fail.specs.declared.fail.EvalFail.TheVariants.{Stop, NoMemory}
use Rattle.dt_base.specs.declared.fault.Fault.{Fault}
use Rattle.expr_scope.specs.Slots.{slot_of}
use Rattle.expr_scope.specs.declared.operands.Operand.{Operand}
use Rattle.expr_model.specs.Functions.{value_of}
use Rattle.vector_model.specs.Faults.{unbuilt}
use Rattle.session_model.specs.Expression.{slot_vector}
use Rattle.func_table.specs.declared.func.Func.{Func}
use Rattle.func_table.specs.declared.slot.Slot.{Slot}

pub more_given : (f : Func) (given : List (Slot Operand)) → 3 < length given
    → value_of f (map slot_vector (map slot_of given)) ≡ Err unbuilt
unfolding value_of
more_given f [] h = absurd (omega (arith, h))
more_given f (a ∷ []) h = absurd (omega (arith, h))
more_given f (a ∷ b ∷ []) h = absurd (omega (arith, h))
more_given f (a ∷ b ∷ c ∷ []) h = absurd (omega (arith, h))
more_given f (a ∷ b ∷ c ∷ d ∷ rest) h = refl

-- a fault that is told is the fault of the definition
pub stop_told : {A B : Type 0} (view : B → A) (o : Result A Fault) (f : Fault) (e : EvalFail) → o ≡ Err f → IsStop f e
    → AnswersAs view o (Err e)
stop_told view o f (NoMemory x) h k = tt
stop_told view o f (Stop g) h k = rw (h, k) refl
