-- A vector's text from the pieces that the code puts.
use Rattle.std.proofs.Common.{◌≡◌, ◌∙◌, ℕ, List, ◌∷◌, ◌++◌, sym, ap}
use Rattle.std.specs.Prelude.{map}
use Rattle.std.specs.List.{flat_map}
use Rattle.std.proofs.lemmas.List.Folds.{flat_map-map}
use Rattle.dt_base.specs.declared.cell.Cell.{Cell}
use Rattle.run_model.specs.Printed.{element}

-- the elements of stored words are those of their cells
pub elements_put : {W : Type 0} (cell : W → Cell) (words : List W) (cells : List Cell) (start after : List ℕ)
    → cells ≡ map cell words → after ≡ start ++ flat_map (λ w. 32 ∷ element (cell w)) words
    → after ≡ start ++ flat_map (λ c. 32 ∷ element c) cells
elements_put cell words cells start after is_cells is_after =
    is_after
    ∙ ap (λ r. start ++ r) (sym (flat_map-map (λ (c : Cell). 32 ∷ element c) cell words))
    ∙ ap (λ cs. start ++ flat_map (λ (c : Cell). 32 ∷ element c) cs) (sym is_cells)
