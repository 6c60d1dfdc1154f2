-- Numbers in a row, one more.
use Rattle.std.proofs.Common.{◌≡◌, ◌+◌, ℕ, List, [], ◌∷◌, ◌++◌, map, sym, ap, ◌∙◌, arith}
use Rattle.std.proofs.lemmas.List.FromFn.{map-range_with_len_more}
use Rattle.std.specs.List.{range_with_len}
use Rattle.dt_base.specs.declared.cell.Cell.{Cell}

-- where the cells of the first k numbers stand and the next one comes, those of k + 1 stand
pub one_more : (f : ℕ → Cell) (k : ℕ) (old new : List Cell) → old ≡ map f (range_with_len 0 k) → new ≡ old ++ f k ∷ []
    → new ≡ map f (range_with_len 0 (k + 1))
one_more f k old new h n = n ∙ (ap (λ xs. xs ++ f k ∷ []) h ∙ sym (map-range_with_len_more f 0 k k (omega arith)))
