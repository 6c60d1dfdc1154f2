-- A loop that makes the cell of one place after another.
use Rattle.std.proofs.Common.{◌≡◌, ◌+◌, ◌++◌, ◌∙◌, ap, sym, ℕ, List, [], ◌∷◌, arith, map}
use Rattle.std.proofs.lemmas.List.{map-append}
use Rattle.std.proofs.lemmas.List.FromFn.{map-range_with_len_more}
use Rattle.dt_base.specs.declared.cell.Cell.{Cell}
use Rattle.dt_model.specs.Operations.{at_places}

-- a loop's step where no place is outside
pub word_placed : {W : Type 0} (cell : W → Cell) (f : ℕ → Cell) (p : ℕ) (items new : List W) (w : W) →
    map cell items ≡ at_places p f → cell w ≡ f p → new ≡ items ++ w ∷ [] → map cell new ≡ at_places (p + 1) f
word_placed cell f p items new w before here pushed =
    ap (map cell) pushed ∙ map-append cell items (w ∷ [])
    ∙ ap (λ xs. xs ++ cell w ∷ []) before ∙ ap (λ c. at_places p f ++ c ∷ []) here
    ∙ sym (map-range_with_len_more f 0 p p (omega arith))
