use Rattle.std.proofs.Common.{◌≡◌, ◌∙◌, ◌<◌, ℕ, false, length, map, slice_index_or, arith, ap, IfOk, subst}
use Rattle.std.specs.List.{list_any}
use Rattle.std.proofs.lemmas.Grind.{common_steps}
use Rattle.row_model.specs.Rows.{Places, leaves_out}
use Rattle.na_vector.specs.Words.{int_cell}
use Rattle.row_choice.proofs.Ranges.{unmarked_left}
use Rattle.row_choice.proofs.marks.left_rows.Goals as goal

-- the marks are those of the words
pub returns : goal.returns
returns c =
    let P : Places → Type 0 = λ xs. IfOk c.unmarked.result (λ v. v.items ≡ xs) in
    let cells = map int_cell c.args.words.now in
    let count : length c.deref.result.now ≡ c.args.rows = grind (arith, common_steps) in
    let same : c.deref.result.now ≡ c.mark_all.new.marks = grind (arith, common_steps) in
    let marked : (p : ℕ) → p < length c.deref.result.now
    → slice_index_or c.deref.result.now p false ≡ list_any (leaves_out p) cells =
    λ p lt. ap (λ xs. slice_index_or xs p false) same ∙ c.mark_all.ensures.marks p (grind (arith, common_steps)) in
    subst P (unmarked_left c.args.rows c.deref.result.now cells count marked) c.unmarked.ensures
