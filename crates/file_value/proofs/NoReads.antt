-- What a call answers that may read files and has read none.
use Rattle.std.proofs.Common.{◌≡◌, Result, Ok, Err, subst, sym}
use Rattle.eval_fail.specs.Answers.{AnswersAs}
use Rattle.eval_fail.specs.declared.fail.EvalFail.{EvalFail}
use Rattle.eval_fail.specs.declared.fail.EvalFail.TheVariants as eval
use Rattle.dt_base.specs.declared.fault.Fault.{Fault}
use Rattle.file_value.specs.Answers.{Gives}
use Rattle.file_value.specs.Reads.{unread}
use Rattle.file_value.specs.declared.fail.ValueFail.{ValueFail}

gives_unread : {A B : Type 0} (view : B → A) (o : Result A Fault) (r : Result B EvalFail) → AnswersAs view o r → Gives view o (unread r)
gives_unread view o (Ok x) h = h
gives_unread view o (Err (eval.Stop f)) h = h
gives_unread view o (Err (eval.NoMemory x)) h = tt

-- the answer of a call that reads none is that of one that may
pub answered : {A B : Type 0} (view : B → A) (o : Result A Fault) (r : Result B EvalFail) (s : Result B ValueFail) → s ≡ unread r → AnswersAs view o r → Gives view o s
answered view o r s e h = subst (Gives view o) (sym e) (gives_unread view o r h)
