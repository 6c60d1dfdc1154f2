-- Vectors: a type and a list of cells.
--   Vector            the type, and the cells in order
--   IsVector v        each cell is NA or of the type, and there are at most 16,777,216
--   cell_at cells p   the cell at a place, counted from 0
--   IsWithin n o      an optional place is none, or one of the first n
--   picked cells o    the cell at an optional place; NA for none
--   gathered v places the vector of the cells of v at these places, in their order
use Rattle.std.specs.Prelude.{ℕ, suc, List, length, ◌≤◌, All, Option, None, Some, map, slice_index_or}
use Rattle.dt_base.specs.declared.cell.Cell.{Cell}
use Rattle.dt_base.specs.declared.cell.Cell.TheVariants.{Na}
use Rattle.dt_base.specs.declared.cell.ColType.{ColType}
use Rattle.dt_base.specs.Cell.{IsOfType}
use Rattle.dt_base.specs.declared.limits.TheConstants.{MAX_ROWS}

-- a type and a list of cells
pub record Vector : Type 0 where
  pub kind : ColType
  pub cells : List Cell

-- each cell is NA or of the type, and the list is within the limit on lengths
pub record IsVector (v : Vector) : Type 0 where
  pub typed : All (IsOfType v.kind) v.cells
  pub short : length v.cells ≤ MAX_ROWS

-- the cell at a place, or NA past the end
abbrev pub cell_at : List Cell → ℕ → Cell
cell_at cells p = slice_index_or cells p Na

-- the place is none, or within a list of this length
abbrev pub IsWithin : ℕ → Option ℕ → Type 0
IsWithin n None = Unit {0}
IsWithin n (Some p) = suc p ≤ n

-- the cell at an optional place, and NA for none
abbrev pub picked : List Cell → Option ℕ → Cell
picked cells None = Na
picked cells (Some p) = cell_at cells p

-- the vector of the cells at these places, in their order, with NA for none
abbrev pub gathered : Vector → List (Option ℕ) → Vector
gathered v places = record { kind = v.kind; cells = map (picked v.cells) places }
