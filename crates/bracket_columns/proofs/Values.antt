-- The values of a list, and the columns that they become.
use Rattle.std.proofs.Common.{◌≡◌, ◌<◌, ℕ, List, [], ◌∷◌, length, map, Result, Ok, Err, refl, sym, ap, subst, ◌∙◌}
use Rattle.std.proofs.Common.{arith}
use Rattle.std.proofs.lemmas.Bool.Decides.{nat_tests}
use Rattle.eval_fail.specs.Answers.{AnswersAs}
use Rattle.eval_fail.specs.declared.fail.EvalFail.{EvalFail}
use Rattle.dt_base.specs.declared.fault.Code.TheVariants.{E19}
use Rattle.dt_base.specs.Fault.{fault}
use Rattle.dt_model.specs.Vector.{Vector}
use Rattle.dt_table.specs.Plain.{plain}
use Rattle.dt_table.specs.Table.{TableSeen}
use Rattle.dt_tree.specs.declared.tree.Arg.{Arg}
use Rattle.expr_value.proofs.Vectors.{same_vectors}
use Rattle.row_model.specs.Lengths.{common_length, repeated}
use Rattle.expr_model.specs.Surroundings.{Env}
use Rattle.na_vector.specs.Frame.{FrameSeen, rows_with, vectors_of}
use Rattle.session_model.specs.Columns.{columns_answer, list_answer, list_table}
use Rattle.session_model.specs.Expression as session
use Rattle.session_model.specs.Meaning.{arg_meaning}
use Rattle.session_model.specs.Value.{new_table}
use Rattle.valued.specs.Valued.{valued_of, vector_in}
use Rattle.valued.specs.declared.column.Valued.{Valued}
use Rattle.vector_model.specs.Then.{then_do}

-- each brought to one length
pub same_repeated : (n : ℕ) (values : List Valued) → map (λ (v : Valued). repeated n v.column.vector) values
    ≡ map (repeated n) (map session.vector_in (map valued_of values))
same_repeated n [] = refl
same_repeated n (v ∷ values) = ap (λ vs. repeated n (vector_in v) ∷ vs) (same_repeated n values)

-- of no values the length is 0
pub rows_in_common : (values : List Valued) (n : ℕ) → common_length (map vector_in values) ≡ Ok n
    → rows_with (length values) n ≡ n
rows_in_common [] n h = cc
rows_in_common (v ∷ values) n h = grind (arith, nat_tests)

-- what the columns give as a table is what the values give
pub table_of_values : (names : List (List ℕ)) (values : List Valued) (n : ℕ) (f : FrameSeen)
    (r : Result TableSeen EvalFail) → common_length (map vector_in values) ≡ Ok n → vectors_of f.columns
    ≡ map (λ (v : Valued). repeated n v.column.vector) values → f.rows ≡ rows_with (length values) n
    → AnswersAs plain (new_table names f.rows (vectors_of f.columns)) r
    → AnswersAs plain (list_table names (map session.vector_in (map valued_of values))) r
table_of_values names values n f r h e k a =
    let vs : List Vector = map session.vector_in (map valued_of values) in
    let table : new_table names n (map (repeated n) vs) ≡ new_table names f.rows (vectors_of f.columns) =
    λ j. new_table names (sym (k ∙ rows_in_common values n h) j) (sym (e ∙ same_repeated n values) j) in
    let common : list_table names vs ≡ new_table names n (map (repeated n) vs) =
    ap (λ o. then_do o (λ m. new_table names m (map (repeated m) vs))) (ap common_length (same_vectors values) ∙ h) in
    subst (λ o. AnswersAs plain o r) (sym (common ∙ table)) a

-- ---- A list of no item, or of more

pub list_of_none : (word : List ℕ) (args : List Arg) (s : Env) → length args ≡ 0
    → list_answer word (map arg_meaning args) s ≡ Err (fault E19 word)
list_of_none word [] s h = refl
list_of_none word (a ∷ args) s h = absurd (omega (arith, h))

pub list_of_some : (word : List ℕ) (args : List Arg) (s : Env) → 0 < length args
    → list_answer word (map arg_meaning args) s ≡ columns_answer (map arg_meaning args) s
list_of_some word [] s h = absurd (omega (arith, h))
list_of_some word (a ∷ args) s h = refl

pub ruleset lists = (list_of_none, list_of_some)
