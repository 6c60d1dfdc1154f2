-- What an assignment makes of a table.
--   names_in, vectors_in t    the names of a plain table's columns, and their cells column by column
--   values k v                a value for k rows: its one cell k times, or its cells
--   last_value p rows values  the last of the values for row p, if there is one
--   written rows values cells the cells once each row has its value
--   becomes n rows x old      a column of n cells that gets the value x
--   begins n rows x           a new column of n cells that gets the value x
--   vectors_after ..          the columns once all is assigned
--   warns_after ..            the warnings of each value that is brought to a column's type
--   Assigned                  a table, and warnings
--   assigned t rows targets   the new table with the warnings, or the first fault
-- All values are computed over the old table.
use Rattle.std.specs.Prelude.{ℕ, ◌+◌, ◌==◌, ◌||◌, Bool, if◌then◌else◌, List, [], ◌∷◌, ◌++◌, length, map, replicate}
use Rattle.std.specs.Prelude.{Option, None, Some, is_some, Result, Ok, Err, slice_get}
use Rattle.std.specs.List.{filter, range_with_len}
use Rattle.dt_base.specs.declared.cell.Cell.{Cell}
use Rattle.dt_base.specs.declared.cell.Cell.TheVariants as is
use Rattle.dt_base.specs.declared.cell.ColType.TheVariants as ty
use Rattle.dt_base.specs.declared.warns.Warns.{Warns}
use Rattle.dt_base.specs.Warns.{no_warns, both_warns}
use Rattle.dt_model.specs.Coercion.{coerced, coercion_warns}
use Rattle.dt_model.specs.Table.{PlainTable, ColumnHead, column_of, heads_of, rows_of, place_of}
use Rattle.dt_model.specs.Vector.{Vector, cell_at}
use Rattle.assign_model.specs.Keys.{cut_key, kept_indices}
use Rattle.assign_model.specs.Targets.{Rows, Target, AssignFault, adds, assign_fault, names_of, names_after, target_of}

-- ---- The columns of a plain table

abbrev pub names_in : PlainTable → List (List ℕ)
names_in t = map (λ head. head.name) t.columns

-- the columns from place c on, each with its cells row by row
abbrev pub vectors_from : ℕ → List ColumnHead → List (List Cell) → List Vector
vectors_from c [] rows = []
vectors_from c (head ∷ rest) rows = record { kind = head.kind; cells = column_of c rows } ∷ vectors_from (c + 1) rest
    rows

abbrev pub vectors_in : PlainTable → List Vector
vectors_in t = vectors_from 0 t.columns t.rows

-- ---- Cells

-- a value of one cell serves each of k rows
abbrev pub values : ℕ → Vector → List Cell
values k v = if length v.cells == 1 then replicate k (cell_at v.cells 0) else v.cells

-- a later value, or else this one
abbrev pub later_or : Option Cell → Option Cell → Option Cell
later_or (Some later) this = Some later
later_or None this = this

-- of the values for row p the last decides
abbrev pub last_value : ℕ → List ℕ → List Cell → Option Cell
last_value p (row ∷ rows) (value ∷ values) = later_or (last_value p rows values) (if row == p then Some value else None)
last_value p _ _ = None

-- the value, or what stands there
abbrev pub value_or : Option Cell → Cell → Cell
value_or (Some value) cell = value
value_or None cell = cell

-- each row that has a value gets it, and every other row keeps its cell
abbrev pub written : List ℕ → List Cell → List Cell → List Cell
written rows values cells = map (λ p. value_or (last_value p rows values) (cell_at cells p))
    (range_with_len 0 (length cells))

-- ---- Columns

-- the value is brought to the type of the column, where rows are chosen or it has length 1
abbrev pub is_brought : Rows → Vector → Bool
is_brought rows x = is_some rows || length x.cells == 1

-- a value for all rows
abbrev pub for_all : ℕ → Vector → Vector → Vector
for_all n x old =
    if length x.cells == 1 then record { kind = old.kind; cells = values n (coerced old.kind x) } else x

-- A column that is there. A value that is brought to its type is written over the rows; another value,
-- which has a cell for each row, takes its place, and its type.
abbrev pub becomes : ℕ → Rows → Vector → Vector → Vector
becomes n None x old = for_all n x old
becomes n (Some rows) x old =
    record { kind = old.kind; cells = written rows (values (length rows) (coerced old.kind x)) old.cells }

-- a new column has the value's type, and is NA on rows that are not chosen
abbrev pub begins : ℕ → Rows → Vector → Vector
begins n None x = record { kind = x.kind; cells = values n x }
begins n (Some rows) x =
    record { kind = x.kind; cells = written rows (values (length rows) x) (replicate n is.Na) }

-- what the target of a column, if there is one, makes of it; none where it deletes the column
abbrev pub value_after : ℕ → Rows → Option Vector → Vector → Option Vector
value_after n rows None old = None
value_after n rows (Some x) old = Some (becomes n rows x old)

abbrev pub column_after : ℕ → Rows → Option Target → Vector → Option Vector
column_after n rows None old = Some old
column_after n rows (Some t) old = value_after n rows t.value old

abbrev pub and_then : Option Vector → List Vector → List Vector
and_then None rest = rest
and_then (Some v) rest = v ∷ rest

-- the columns that stay, in order
abbrev pub kept_after : ℕ → Rows → List Target → List (List ℕ) → List Vector → List Vector
kept_after n rows targets (name ∷ names) (v ∷ vectors) =
    and_then (column_after n rows (target_of name targets) v) (kept_after n rows targets names vectors)
kept_after n rows targets _ _ = []

-- the new column of a target
abbrev pub begun : ℕ → Rows → Option Vector → Vector
begun n rows (Some x) = begins n rows x
begun n rows None = record { kind = ty.Lgl; cells = [] }

-- the columns that stay, in order, and then new ones in the order of the targets
abbrev pub vectors_after : ℕ → Rows → List Target → List (List ℕ) → List Vector → List Vector
vectors_after n rows targets names vectors =
    kept_after n rows targets names vectors ++ map (λ t. begun n rows t.value) (filter (adds names) targets)

-- ---- Warnings

-- of a value for a column of this type, if the column is there
abbrev pub value_warns : Rows → Vector → Option ColumnHead → Warns
value_warns rows x None = no_warns
value_warns rows x (Some head) = if is_brought rows x then coercion_warns head.kind x else no_warns

abbrev pub head_at : List ColumnHead → Option ℕ → Option ColumnHead
head_at heads None = None
head_at heads (Some c) = slice_get heads c

abbrev pub target_warns : List ColumnHead → Rows → List ℕ → Option Vector → Warns
target_warns heads rows name None = no_warns
target_warns heads rows name (Some x) = value_warns rows x (head_at heads
    (place_of name (map (λ head. head.name) heads)))

-- each warning that some value has; they do not depend on how many rows are chosen
abbrev pub warns_after : List ColumnHead → Rows → List Target → Warns
warns_after heads rows [] = no_warns
warns_after heads rows (t ∷ rest) = both_warns (target_warns heads rows t.name t.value) (warns_after heads rows rest)

-- ---- The table

-- a table whose last column goes has no rows
abbrev pub rows_left : ℕ → ℕ → ℕ
rows_left width n = if width == 0 then 0 else n

-- the table of these names and columns of n cells, with the key, the indices and the slots of the old one
abbrev pub table_after : PlainTable → Rows → List Target → PlainTable
table_after t rows targets =
    let names = names_after (names_in t) targets in
    let vectors = vectors_after (length t.rows) rows targets (names_in t) (vectors_in t) in
    record {
      columns = heads_of names vectors;
      rows = rows_of (rows_left (length vectors) (length t.rows)) vectors;
      key = cut_key (names_of targets) t.key;
      indices = kept_indices (names_of targets) t.indices;
      slots = t.slots;
    }

-- a table, and warnings
pub record Assigned : Type 0 where
  pub table : PlainTable
  pub warns : Warns

abbrev pub or_fault : Option AssignFault → Assigned → Result Assigned AssignFault
or_fault (Some f) a = Err f
or_fault None a = Ok a

-- the new table with the warnings, or the first fault
abbrev pub assigned : PlainTable → Rows → List Target → Result Assigned AssignFault
assigned t rows targets =
    or_fault (assign_fault (names_in t) (length t.rows) t.slots rows targets)
    (record { table = table_after t rows targets; warns = warns_after t.columns rows targets })
