-- Cells of several columns, brought to one type.
--   choice_at t test a b p   the cell that a test picks at a place, of two lists brought to t
--   among t cells c          whether c, brought to t, is one of the cells
use Rattle.std.specs.Prelude.{ℕ, List}
use Rattle.std.specs.List.{list_any}
use Rattle.dt_base.specs.declared.cell.Cell.{Cell}
use Rattle.dt_base.specs.declared.cell.Cell.TheVariants as is
use Rattle.dt_base.specs.declared.cell.ColType.{ColType}
use Rattle.dt_model.specs.Coercion.{brought}
use Rattle.dt_model.specs.Operations.{cell_for, picked_by, same_cell}
use Rattle.dt_model.specs.Vector.{cell_at}

-- the cell that the test at a place picks, both lists brought to the type
abbrev pub choice_at : ColType → List Cell → List Cell → List Cell → ℕ → Cell
choice_at t test a b p = picked_by (cell_at test p) (brought t (cell_for a p)) (brought t (cell_for b p))

-- whether a cell that is brought to the type is one of these
abbrev pub among : ColType → List Cell → Cell → Cell
among t cells c = is.Lgl (list_any (same_cell (brought t c)) cells)
