-- What a first step answers, and both steps: its refusal is theirs, and behind its answer the second goes on.
use Rattle.std.proofs.Common.{◌≡◌, Result, Ok, Err, sym, ap, subst, ◌∙◌}
use Rattle.std.specs.Prelude.{IsErrAnd}
use Rattle.eval_fail.specs.Answers.{AnswersAs}
use Rattle.eval_fail.specs.declared.fail.EvalFail.{EvalFail}
use Rattle.eval_fail.specs.declared.fail.EvalFail.TheVariants as eval
use Rattle.dt_base.specs.declared.fault.Fault.{Fault}
use Rattle.vector_model.specs.Then.{then_do}

refused_err : {A B C D : Type 0} (view : B → A) (then_view : D → C) (o : Result A Fault) (k : A → Result C Fault) (e : EvalFail) → AnswersAs view o (Err e) → AnswersAs then_view (then_do o k) (Err e)
refused_err view then_view o k (eval.Stop f) h = ap (λ x. then_do x k) h
refused_err view then_view o k (eval.NoMemory x) h = tt

pub refused_then : {A B C D : Type 0} (view : B → A) (then_view : D → C) (o p : Result A Fault) (k : A → Result C Fault) (e : EvalFail) (r : Result D EvalFail) → p ≡ o → AnswersAs view p (Err e) → IsErrAnd r (λ f. f ≡ e) → AnswersAs then_view (then_do o k) r
refused_then view then_view o p k e (Ok x) q h s = absurd s
refused_then {A = A} view then_view o p k e (Err f) q h s =
    let Q : Result A Fault → Type 0 = λ x. AnswersAs view x (Err e) in
    let P : EvalFail → Type 0 = λ x. AnswersAs then_view (then_do o k) (Err x) in
    subst P (sym s) (refused_err view then_view o k e (subst Q q h))

-- the second step goes on with what the first gave
pub given_then : {A B C D : Type 0} (view : B → A) (then_view : D → C) (o p : Result A Fault) (k : A → Result C Fault) (b : B) (d : D) → p ≡ o → AnswersAs view p (Ok b) → k (view b) ≡ Ok (then_view d) → AnswersAs then_view (then_do o k) (Ok d)
given_then view then_view o p k b d q h e = ap (λ x. then_do x k) (sym q ∙ h) ∙ e
