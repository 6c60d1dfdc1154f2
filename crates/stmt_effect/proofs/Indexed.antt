-- What is given, with the index that a statement adds, is always there.
use Rattle.std.proofs.Common.{◌≡◌, Result, Ok, Err}
use Rattle.dt_base.specs.declared.fault.Fault.{Fault}
use Rattle.eval_fail.specs.Answers.{AnswersAs}
use Rattle.eval_fail.specs.declared.fail.EvalFail.{EvalFail}
use Rattle.eval_fail.specs.declared.fail.EvalFail.TheVariants as eval

-- so want of memory is the one other answer
pub lacks_memory : {A B C D : Type 0} (view : B → A) (shown : D → C) (a : A) (o : Result C Fault) (e : EvalFail)
    → AnswersAs view (Ok a) (Err e) → AnswersAs shown o (Err e)
lacks_memory view shown a o (eval.Stop f) h = cc
lacks_memory view shown a o (eval.NoMemory x) h = tt

-- a value as an answer
abbrev pub got : {A : Type 0} → A → Result A Fault
got x = Ok x

pub same_given : {A : Type 0} {x y : A} → got x ≡ got y → x ≡ y
same_given e = cc
