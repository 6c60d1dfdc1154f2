-- The refusal of an operation is the fault of its definition.
use Rattle.std.proofs.Common.{ℕ, List, Result, Err, refl}
use Rattle.eval_fail.specs.Answers.{AnswersAs}
use Rattle.eval_fail.specs.declared.fail.EvalFail.{EvalFail}
use Rattle.eval_fail.specs.declared.fail.EvalFail.TheVariants as eval
use Rattle.dt_model.specs.Operations.{OpFault}
use Rattle.expr_model.specs.Operators.{op_result}
use Rattle.expr_operate.specs.Refusals.{Refuses}
use Rattle.na_common.specs.Answers.{Answers}
use Rattle.na_common.specs.declared.fail.OpFail.{OpFail}
use Rattle.na_common.specs.declared.fail.OpFail.TheVariants.{BadType, Length, Overflow, TooManyRows, NoMemory}

pub refused_told : {A B : Type 0} (view : B → A) (w : List ℕ) (o : Result A OpFault) (fail : OpFail) (e : EvalFail)
    → Answers view o (Err fail) → Refuses w fail e → AnswersAs view (op_result w o) (Err e)
refused_told view w o fail (eval.NoMemory x) h k = tt
refused_told view w o BadType (eval.Stop f) h k = rw (h, k) refl
refused_told view w o (Length left right) (eval.Stop f) h k = rw (h, k) refl
refused_told view w o (Overflow place) (eval.Stop f) h k = rw (h, k) refl
refused_told view w o TooManyRows (eval.Stop f) h k = rw (h, k) refl
refused_told view w o (NoMemory x) (eval.Stop f) h k = absurd k
