-- What `setnames` makes of a table, step by step, beside its plain reading.
use Rattle.std.proofs.Common.{◌≡◌, ◌∙◌, All, ℕ, List, Result, Ok, Err, length, ap, sym, subst, refl}
use Rattle.std.specs.List.{IsDistinct}
use Rattle.std.specs.Str.{bytes_eq}
use Rattle.dt_base.specs.declared.fault.Fault.{Fault}
use Rattle.dt_model.specs.Table.{PlainTable}
use Rattle.dt_table.proofs.Plain.{plain_names}
use Rattle.dt_table.specs.Plain.{plain}
use Rattle.dt_table.specs.Table.{IsColumnList, IsFilled, IsTable, TableSeen, renamed}
use Rattle.eval_fail.specs.Answers.{AnswersAs}
use Rattle.eval_fail.specs.declared.fail.EvalFail.{EvalFail}
use Rattle.eval_fail.specs.declared.fail.EvalFail.TheVariants as eval
use Rattle.session_model.specs.Set.{new_names, old_names, renamed_columns, renamed_table, renames, same_length}
use Rattle.stmt_change.specs.Effects.{with_names, FitsRename}
use Rattle.vector_model.specs.Then.{then_do}
use Rattle.cmd_assign.specs.Renames.{checked_in, distinct, renames_in, IsNamed}
use Rattle.cmd_assign.proofs.Renaming.{AreAt, are_at, as_many, column_list, names_filled, plain_renamed}
use Rattle.cmd_assign.proofs.Renaming.{renamed_is}

-- three steps of which the second is kept
in_steps : {A B C D : Type 0} (a : Result A Fault) (b : Result B Fault) (c : Result C Fault) (d : Result D Fault)
    → then_do (then_do a (λ _. then_do b (λ done. then_do c (λ _. Ok done)))) (λ _. d)
    ≡ then_do a (λ _. then_do b (λ _. then_do c (λ _. d)))
in_steps (Err f) b c d = refl
in_steps (Ok x) (Err f) c d = refl
in_steps (Ok x) (Ok y) (Err f) d = refl
in_steps (Ok x) (Ok y) (Ok z) d = refl

pub renames_alike : (n : ℕ) (t : TableSeen) (old new : List (List ℕ)) → IsTable t
    → renames_in t old new ≡ renames (n, plain t) old new
renames_alike n t old new h =
    in_steps (same_length old new) (old_names t.names old) (new_names new)
    (then_do (distinct (renamed_columns old new t.names)) (λ _. Ok (renamed_table old new (plain t))))
    ∙ (λ j. then_do (same_length old new) (λ _.
    then_do (old_names (sym (plain_names t h) j) old) (λ _.
    then_do (new_names new) (λ _.
    then_do (distinct (renamed_columns old new (sym (plain_names t h) j))) (λ _.
    Ok (renamed_table old new (plain t)))))))

-- ---- The columns that are named

module _ (t : TableSeen) (old new : List (List ℕ)) (cols : List ℕ) (h : IsTable t) (n : IsNamed t.names old new cols)
  where
    at : AreAt t.names old cols
    at = are_at t.names old cols n.places

    names_then : renamed cols new t.names ≡ renamed_columns old new t.names
    names_then = renamed_is old new t.names cols n.each h.names.distinct n.distinct at

    -- they are distinct, and in range
    pub columns_named : IsColumnList (length t.names) cols
    columns_named = column_list t.names old cols n.distinct at

    -- no name stands twice then
    pub renames_done : (done : List (Unit {0})) → checked_in t old new ≡ Ok done
        → distinct (renamed cols new t.names) ≡ Ok tt → renames_in t old new ≡ Ok (plain (with_names cols new t))
    renames_done done e d =
        (let last : distinct (renamed_columns old new t.names) ≡ Ok tt = subst (λ l. distinct l ≡ Ok tt) names_then d in
        ap (λ x. then_do x (λ _. then_do (distinct (renamed_columns old new t.names)) (λ _.
        Ok (renamed_table old new (plain t))))) e
        ∙ ap (λ x. then_do x (λ _. Ok (renamed_table old new (plain t)))) last
        ∙ ap Ok (sym (plain_renamed old new cols t h n.each n.distinct at)))

    -- a name would stand twice
    pub renames_stopped : {B : Type 0} (view : B → PlainTable) (done : List (Unit {0})) (e : EvalFail)
        → checked_in t old new ≡ Ok done → AnswersAs (λ (x : Unit {0}). x) (distinct (renamed cols new t.names)) (Err e)
        → AnswersAs view (renames_in t old new) (Err e)
    renames_stopped view done (eval.NoMemory x) c d = tt
    renames_stopped view done (eval.Stop f) c d =
        (let last : distinct (renamed_columns old new t.names) ≡ Err f = subst (λ l. distinct l ≡ Err f) names_then d in
        ap (λ x. then_do x (λ _. then_do (distinct (renamed_columns old new t.names)) (λ _.
        Ok (renamed_table old new (plain t))))) c
        ∙ ap (λ x. then_do x (λ _. Ok (renamed_table old new (plain t)))) last)

    -- the columns can get the names
    pub renames_fit : IsDistinct bytes_eq (renamed cols new t.names) → FitsRename t cols new
    renames_fit d =
        (let count : length new ≡ length old = sym n.each ∙ as_many t.names old cols at in
        record {
          columns = columns_named;
          each = n.each;
          all = record {
            filled = subst (All IsFilled) (sym names_then) (names_filled old new t.names count n.filled h.names.filled);
            distinct = d;
          };
        })
