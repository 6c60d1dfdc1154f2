-- An operation on one vector gives as many cells.
use Rattle.std.proofs.Common.{◌≡◌, ℕ, List, length, map, Option, None, Some, Result, Ok, Err, sym, ap, ◌∙◌}
use Rattle.std.proofs.lemmas.List.{length-map}
use Rattle.dt_base.specs.declared.cell.Cell.{Cell}
use Rattle.dt_base.specs.declared.cell.ColType.{ColType}
use Rattle.dt_base.specs.declared.operators.UnOp.{UnOp}
use Rattle.dt_model.specs.Operations.{OpFault, typed, unary, unary_cell, unary_type}
use Rattle.dt_model.specs.Vector.{Vector}

abbrev cells_in : Result Vector OpFault → ℕ
cells_in (Ok v) = length v.cells
cells_in (Err f) = 0

typed_cells : (t : Option ColType) (cells : List Cell) (w : Vector) → typed t (Ok cells) ≡ Ok w
    → length w.cells ≡ length cells
typed_cells None cells w h = cc
typed_cells (Some t) cells w h = sym (ap cells_in h)

-- one for each
pub unary_cells : (o : UnOp) (v w : Vector) → unary o v ≡ Ok w → length w.cells ≡ length v.cells
unary_cells o v w h =
    typed_cells (unary_type o v.kind) (map (unary_cell o) v.cells) w h ∙ length-map v.cells (unary_cell o)
