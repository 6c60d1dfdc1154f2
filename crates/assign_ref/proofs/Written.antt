-- Cells written in order are those of which the last stays.
use Rattle.std.proofs.Common.{◌≡◌, ◌<◌, ◌==◌, ℕ, cond, List, [], ◌∷◌, length, set, None, Some, Option, refl, sym, ◌∙◌}
use Rattle.std.proofs.Common.{inl, inr}
use Rattle.std.proofs.lemmas.Bool.{cases_Bool, eqb-false, eqb-true}
use Rattle.std.proofs.lemmas.List.{get_or-set_same, get_or-set_other, length-set}
use Rattle.std.proofs.lemmas.List.FromFn.{fill_by_all}
use Rattle.dt_base.specs.declared.cell.Cell.{Cell}
use Rattle.dt_model.specs.Vector.{cell_at}
use Rattle.dt_table.specs.Table.{put_in_order}
use Rattle.assign_model.specs.Assign.{last_value, later_or, value_or, written}

-- a value that is put last stays, and one before it where none comes later
later_cases : (o : Option Cell) (row p : ℕ) (v : Cell) (cells : List Cell) → p < length cells
    → value_or o (cell_at (set cells row v) p) ≡ value_or (later_or o (cond (row == p) (Some v) None)) (cell_at cells p)
later_cases (Some w) row p v cells lt = refl
later_cases None row p v cells lt =
    elim (cases_Bool (row == p)) [
      | inl hit ↦ (let same : row ≡ p = eqb-true row p hit in rw (hit, same) (get_or-set_same cells p v _ lt))
      | inr miss ↦ rw miss (get_or-set_other cells row p v _ (λ (e : p ≡ row). eqb-false row p miss (sym e)))
    ]

pub put_at : (rows : List ℕ) (values cells : List Cell) (p : ℕ) → p < length cells
    → cell_at (put_in_order rows values cells) p ≡ value_or (last_value p rows values) (cell_at cells p)
put_at [] values cells p lt = refl
put_at (row ∷ rows) [] cells p lt = refl
put_at (row ∷ rows) (v ∷ values) cells p lt =
    put_at rows values (set cells row v) p (rw (length-set cells row v) lt)
    ∙ later_cases (last_value p rows values) row p v cells lt

put_long : (rows : List ℕ) (values cells : List Cell) → length (put_in_order rows values cells) ≡ length cells
put_long [] values cells = refl
put_long (row ∷ rows) [] cells = refl
put_long (row ∷ rows) (v ∷ values) cells = put_long rows values (set cells row v) ∙ length-set cells row v

pub put_is_written : (rows : List ℕ) (values cells : List Cell) → put_in_order rows values cells
    ≡ written rows values cells
put_is_written rows values cells = fill_by_all (λ p. value_or (last_value p rows values) (cell_at cells p))
    (put_in_order rows values cells) (length cells) _ (put_long rows values cells)
    (λ k lt. put_at rows values cells k lt)
