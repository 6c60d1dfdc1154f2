-- Plain tables: a list of columns and a list of rows.
--   ColumnHead             a column's name and type
--   PlainTable             the columns, the rows, the names of the key and of each index, the slots
--   row_at columns r       row r of columns that stand side by side, rows counted from 0
--   rows_of n columns      their first n rows
--   column_of c rows       column c of a list of rows
--   heads_of names columns the columns' names and types
--   table_of names n columns   the new table of these columns of n cells
--   no_table               the table without columns
--   past_limit n w         the first limit that a new table of n rows and w columns passes
--   name_at names c        the name at a place, counted from 0
--   names_at names cols    the names at these places
--   place_of name names    the first place of a name, if it is there
--   is_repeated names c    whether the name at place c stands at a lesser place too
--   first_repeated names   the least such place
use Rattle.std.specs.Prelude.{ℕ, ◌+◌, ◌*◌, nat_lt, Bool, if◌then◌else◌, List, [], ◌∷◌, Option, None, Some, map, take}
use Rattle.std.specs.Prelude.{find, position, slice_index_or, length}
use Rattle.std.specs.List.{range_with_len, list_any}
use Rattle.std.specs.Str.{bytes_eq}
use Rattle.dt_base.specs.declared.cell.Cell.{Cell}
use Rattle.dt_base.specs.declared.cell.ColType.{ColType}
use Rattle.dt_base.specs.declared.limits.TheConstants.{MAX_CELLS, MAX_COLUMNS, MAX_ROWS, SPARE_COLUMNS}
use Rattle.dt_model.specs.Vector.{Vector, cell_at}

-- a column's name and type
pub record ColumnHead : Type 0 where
  pub name : List ℕ
  pub kind : ColType

-- A table as a list of rows, each with as many cells as there are columns. A table without columns
-- has no rows. The key is a list of column names, and so is each index.
pub record PlainTable : Type 0 where
  pub columns : List ColumnHead
  pub rows : List (List Cell)
  pub key : List (List ℕ)
  pub indices : List (List (List ℕ))
  pub slots : ℕ

-- one row of columns that stand side by side: the cell of each column at this place
abbrev pub row_at : List Vector → ℕ → List Cell
row_at columns r = map (λ v. cell_at v.cells r) columns

-- the first n rows of columns that stand side by side
abbrev pub rows_of : ℕ → List Vector → List (List Cell)
rows_of n columns = map (row_at columns) (range_with_len 0 n)

-- one column of a list of rows: the cell of each row at this place
abbrev pub column_of : ℕ → List (List Cell) → List Cell
column_of c rows = map (λ row. cell_at row c) rows

-- the name and type of each column, in order
abbrev pub heads_of : List (List ℕ) → List Vector → List ColumnHead
heads_of (name ∷ names) (v ∷ columns) = record { name = name; kind = v.kind } ∷ heads_of names columns
heads_of _ _ = []

-- a new table has no key and no index, and 1,024 slots more than columns
abbrev pub table_of : List (List ℕ) → ℕ → List Vector → PlainTable
table_of names rows columns = record {
  columns = heads_of names columns;
  rows = rows_of rows columns;
  key = [];
  indices = [];
  slots = length columns + SPARE_COLUMNS;
}

-- the table without columns
abbrev pub no_table : PlainTable
no_table = table_of [] 0 []

-- what a table has a limit on
pub data TableLimit : Type 0 where
  Rows : TableLimit
  Cells : TableLimit
  Columns : TableLimit

-- the limits on a new table, in the order in which they are looked at: rows, cells, columns
abbrev pub past_limit : ℕ → ℕ → Option TableLimit
past_limit rows width =
    if nat_lt MAX_ROWS rows then Some Rows
    else (if nat_lt MAX_CELLS (rows * width) then Some Cells
    else (if nat_lt MAX_COLUMNS width then Some Columns else None))

-- the name at a place; past the end it is empty, as no column's is
abbrev pub name_at : List (List ℕ) → ℕ → List ℕ
name_at names c = slice_index_or names c []

-- the names at these places, in their order
abbrev pub names_at : List (List ℕ) → List ℕ → List (List ℕ)
names_at names = map (name_at names)

-- the first place at which the name stands
abbrev pub place_of : List ℕ → List (List ℕ) → Option ℕ
place_of name = position (bytes_eq name)

-- the name at this place stands at a lesser place too
abbrev pub is_repeated : List (List ℕ) → ℕ → Bool
is_repeated names c = list_any (bytes_eq (name_at names c)) (take c names)

-- the least place whose name stands before it too
abbrev pub first_repeated : List (List ℕ) → Option ℕ
first_repeated names = find (is_repeated names) (range_with_len 0 (length names))
