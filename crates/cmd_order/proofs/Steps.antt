-- One step after another: the fault of the first is that of both.
use Rattle.std.proofs.Common.{◌≡◌, ap, refl, subst, sym, Result, Ok, Err}
use Rattle.std.specs.Result.{IsErrAnd}
use Rattle.dt_base.specs.declared.fault.Fault.{Fault}
use Rattle.eval_fail.specs.Answers.{AnswersAs}
use Rattle.eval_fail.specs.declared.fail.EvalFail.{EvalFail}
use Rattle.eval_fail.specs.declared.fail.EvalFail.TheVariants.{Stop, NoMemory}
use Rattle.vector_model.specs.Then.{then_do}

pub fault_goes_on : {A B C D : Type 0} (view : B → A) (other : D → C) (o : Result A Fault) (k : A → Result C Fault)
    (e : EvalFail) → AnswersAs view o (Err e) → AnswersAs other (then_do o k) (Err e)
fault_goes_on view other o k (Stop f) h = ap (λ r. then_do r k) h
fault_goes_on view other o k (NoMemory m) h = tt

-- the same as a `?` gives it on
pub fault_given_on : {A B C D : Type 0} (view : B → A) (other : D → C) (o : Result A Fault) (k : A → Result C Fault)
    (e : EvalFail) (r : Result D EvalFail) → AnswersAs view o (Err e) → IsErrAnd r (λ z. z ≡ e)
    → AnswersAs other (then_do o k) r
fault_given_on view other o k e (Ok d) h is = absurd is
fault_given_on view other o k e (Err z) h is =
    subst (λ (x : EvalFail). AnswersAs other (then_do o k) (Err x)) (sym is) (fault_goes_on view other o k e h)

-- the second step on what the first gives
pub step_on : {A C D : Type 0} (view : D → C) (o : Result A Fault) (k : A → Result C Fault) (a : A)
    (r : Result D EvalFail) → o ≡ Ok a → AnswersAs view (k a) r → AnswersAs view (then_do o k) r
step_on view o k a r e h = subst (λ x. AnswersAs view (then_do x k) r) (sym e) h

-- two steps, of which the second cannot fail
pub then_done : {A B C : Type 0} (o : Result A Fault) (f : A → B) (g : B → C)
    → then_do (then_do o (λ a. Ok (f a))) (λ b. Ok (g b)) ≡ then_do o (λ a. Ok (g (f a)))
then_done (Err e) f g = refl
then_done (Ok a) f g = refl
