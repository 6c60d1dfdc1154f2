-- The argument at a place.
use Rattle.std.proofs.Common.{◌≡◌, ◌<◌, ◌≤◌, ℕ, List, Option, Some, Result, Ok, Err, length, map, slice_index_or, option_map, refl, ap, ◌∙◌}
use Rattle.std.proofs.lemmas.Option.{slice_get-map, slice_get_read, slice_get_past}
use Rattle.eval_fail.specs.Answers.{AnswersAs}
use Rattle.eval_fail.specs.Answers as eval
use Rattle.eval_fail.specs.declared.fail.EvalFail.{EvalFail}
use Rattle.eval_fail.specs.declared.fail.EvalFail.TheVariants as eval_fail
use Rattle.dt_base.specs.declared.fault.Fault.{Fault}
use Rattle.std.specs.Borrow.{Bor}
use Rattle.dt_tree.specs.declared.tree.Expr.{Expr}
use Rattle.dt_tree.specs.declared.tree.Arg.{Arg}
use Rattle.vector_model.specs.Faults.{unbuilt}
use Rattle.session_model.specs.Calls.{there}
use Rattle.session_model.specs.Expression.{arg_at}
use Rattle.session_model.specs.Meaning.{meaning, arg_meaning}
use Rattle.session_model.specs.Meanings.{Meaning}

-- the argument at a place that is within the list
pub found : (args : List Arg) (o : Option ℕ) (i : ℕ) (a : Arg) (m : Meaning) → o ≡ Some i → i < length args → a ≡ slice_index_or args i a → (arg_meaning a).means ≡ m → there (arg_at (map arg_meaning args) o) ≡ Ok m
found args o i a m p h e k =
    ap (λ x. there (arg_at (map arg_meaning args) x)) p
    ∙ ap there (slice_get-map arg_meaning args i ∙ ap (option_map arg_meaning) (slice_get_read args (length args) i a refl h e))
    ∙ ap Ok k

-- there is none past the end
pub not_found : (args : List Arg) (o : Option ℕ) (i : ℕ) → o ≡ Some i → length args ≤ i → there (arg_at (map arg_meaning args) o) ≡ Err unbuilt
not_found args o i p h =
    ap (λ x. there (arg_at (map arg_meaning args) x)) p
    ∙ ap there (slice_get-map arg_meaning args i ∙ ap (option_map arg_meaning) (slice_get_past args i h))

-- an argument that is not there is what the definition says
pub argument_missing : (o : Result Meaning Fault) (e : EvalFail) → o ≡ Err unbuilt → eval.IsStop unbuilt e → AnswersAs {B = Bor Expr} (λ (x : Bor Expr). meaning x.now) o (Err e)
argument_missing o (eval_fail.Stop g) h s = h ∙ ap Err s
argument_missing o (eval_fail.NoMemory x) h s = tt
