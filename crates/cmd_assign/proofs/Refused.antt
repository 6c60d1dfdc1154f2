-- An answer that is refused by a step within it.
use Rattle.std.proofs.Common.{◌≡◌, Result, Ok, Err, sym, subst}
use Rattle.std.specs.Prelude.{IsErrAnd}
use Rattle.dt_base.specs.declared.fault.Fault.{Fault}
use Rattle.eval_fail.specs.Answers.{AnswersAs}
use Rattle.eval_fail.specs.declared.fail.EvalFail.{EvalFail}

pub refused_same : {A B : Type 0} (view : B → A) (o : Result A Fault) (e : EvalFail) (r : Result B EvalFail)
    → AnswersAs view o (Err e) → IsErrAnd r (λ f. f ≡ e) → AnswersAs view o r
refused_same view o e (Ok x) h s = absurd s
refused_same view o e (Err f) h s = subst (λ (x : EvalFail). AnswersAs view o (Err x)) (sym s) h
