-- The fault of an argument is the fault of all.
use Rattle.std.proofs.Common.{◌≡◌, ◌<◌, ◌+◌, ◌∙◌, ℕ, List, ◌∷◌, length, map, drop, get_or, Err, Result, refl, ap}
use Rattle.std.proofs.Common.{add-one, drop-cons}
use Rattle.eval_fail.specs.Answers.{AnswersAs}
use Rattle.eval_fail.specs.declared.fail.EvalFail.{EvalFail}
use Rattle.eval_fail.specs.declared.fail.EvalFail.TheVariants.{Stop, NoMemory}
use Rattle.dt_base.specs.declared.fault.Fault.{Fault}
use Rattle.dt_tree.specs.declared.tree.Arg.{Arg}
use Rattle.session_model.specs.Asked.{Asked, Beside, with_argument, with_arguments}
use Rattle.session_model.specs.Meaning.{arg_meaning}
use Rattle.vector_model.specs.Then.{then_do}

at : (args : List Arg) (i : ℕ) (a : Arg) → i < length args → a ≡ get_or args i a → drop i args ≡ a ∷ drop (i + 1) args
at args i a l e = drop-cons args i a l ∙ rw (add-one i, ← e) refl

-- the argument at i, where those before it passed
pub refused : {B C : Type 0} (c : Beside) (q : Asked) (args : List Arg) (i : ℕ) (a : Arg)
    (whole : Result Asked Fault) (seen : B → Asked) (view : C → Asked) (e : EvalFail)
    → whole ≡ with_arguments c q (map arg_meaning (drop i args)) → i < length args → a ≡ get_or args i a
    → AnswersAs seen (with_argument c q (arg_meaning a)) (Err e) → AnswersAs view whole (Err e)
refused c q args i a whole seen view (Stop f) h l g k =
    h ∙ ap (λ r. with_arguments c q (map arg_meaning r)) (at args i a l g)
    ∙ ap (λ z. then_do z (λ p. with_arguments c p (map arg_meaning (drop (i + 1) args)))) k
refused c q args i a whole seen view (NoMemory m) h l g k = tt
