-- The first cell picked again and again.
use Rattle.std.proofs.Common.{◌≡◌, ℕ, zero, suc, List, ◌∷◌, map, replicate, Some, refl, ap}
use Rattle.dt_base.specs.declared.cell.Cell.{Cell}
use Rattle.dt_model.specs.Vector.{cell_at, picked}

pub picked_first : (cells : List Cell) (n : ℕ) → map (picked cells) (replicate n (Some 0))
    ≡ replicate n (cell_at cells 0)
picked_first cells zero = refl
picked_first cells (suc n) = ap (λ xs. cell_at cells 0 ∷ xs) (picked_first cells n)
