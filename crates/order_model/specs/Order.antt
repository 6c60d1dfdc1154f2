-- The order of cells, and the order of rows over a list of columns.
--   Sorting                  one column of an order: its cells, and which way they go
--   ascending cells          the cells rise, NA first
--   cells_of columns c       the cells of the column at a place, counted from 0
--   rising columns cols      the columns at these places, whose cells rise, NA first
--   value_cmp a b            the order of two cells, NA apart
--   cell_cmp down na_last a b   the order of two cells of a column
--   row_cmp by r s           the order of rows r and s, by the first column in which they differ
use Rattle.std.specs.Prelude.{ℕ, Bool, false, if◌then◌else◌, List, [], ◌∷◌, map, Option, None, Some, slice_get}
use Rattle.std.specs.declared.cmp.Ordering.{Ordering}
use Rattle.std.specs.declared.cmp.Ordering.TheVariants.{Less, Equal, Greater}
use Rattle.std.specs.Ordering.{nat_cmp, int_cmp, bool_cmp, ordering_then}
use Rattle.std.specs.Cmp.Lexicographic.{slice_cmp}
use Rattle.dt_base.specs.declared.cell.Cell.{Cell}
use Rattle.dt_base.specs.declared.cell.Cell.TheVariants as is
use Rattle.dt_model.specs.Vector.{Vector, cell_at}

-- a column's cells; whether they fall; whether NA stands last
pub record Sorting : Type 0 where
  pub cells : List Cell
  pub down : Bool
  pub na_last : Bool

-- the cells rise, and NA stands first
abbrev pub ascending : List Cell → Sorting
ascending cells = record { cells = cells; down = false; na_last = false }

-- the cells of a column that is there
abbrev pub cells_in : Option Vector → List Cell
cells_in None = []
cells_in (Some v) = v.cells

-- the cells of the column at a place
abbrev pub cells_of : List Vector → ℕ → List Cell
cells_of columns c = cells_in (slice_get columns c)

-- these columns, each with its cells rising
abbrev pub rising : List Vector → List ℕ → List Sorting
rising columns = map (λ c. ascending (cells_of columns c))

-- types rise; a column has one type, so that no two cells of different types meet in it
abbrev pub type_rank : Cell → ℕ
type_rank is.Na = 0
type_rank (is.Lgl _) = 1
type_rank (is.Int _) = 2
type_rank (is.Text _) = 3

-- FALSE before TRUE, integers by value, texts by their bytes
abbrev pub value_cmp : Cell → Cell → Ordering
value_cmp (is.Lgl x) (is.Lgl y) = bool_cmp x y
value_cmp (is.Int x) (is.Int y) = int_cmp x y
value_cmp (is.Text x) (is.Text y) = slice_cmp nat_cmp x y
value_cmp a b = nat_cmp (type_rank a) (type_rank b)

-- Two NA are equal. NA stands first, or last where it is to. The other cells rise, or fall where they
-- are to: that moves no NA.
abbrev pub cell_cmp : Bool → Bool → Cell → Cell → Ordering
cell_cmp down na_last is.Na is.Na = Equal
cell_cmp down na_last is.Na _ = if na_last then Greater else Less
cell_cmp down na_last _ is.Na = if na_last then Less else Greater
cell_cmp down na_last a b = if down then value_cmp b a else value_cmp a b

-- the order of rows r and s: that of the first column in which they differ
abbrev pub row_cmp : List Sorting → ℕ → ℕ → Ordering
row_cmp [] r s = Equal
row_cmp (c ∷ rest) r s =
    ordering_then (cell_cmp c.down c.na_last (cell_at c.cells r) (cell_at c.cells s)) (row_cmp rest r s)
