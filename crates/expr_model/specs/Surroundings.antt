-- What an expression meets, and what a name gives there.
--   Var                  what a script's name is bound to: a table, or a vector
--   Columns              columns side by side, with their names
--   Env                  the surroundings of an expression
--   Vars                 what the script's names are bound to
--   columns_in t         the columns of a table, with their names
--   columns_at c places  the same columns with these rows
--   outside vars         what an expression meets outside brackets
--   in_rows c places vars    what it meets in a bracket, over these rows
--   integer n            the vector of one integer
--   column_named q t     the column of the name q, if there is one
--   var_vector code q b  the vector that a script's name gives, or its fault; `code` for an unknown name
--   special_vector s p   what a special name gives
--   name_vector s q      what the name q gives where a vector is wanted, or its fault
--   var_table q b        the table that a script's name gives where one is wanted, or its fault
use Rattle.std.specs.Prelude.{ℕ, ◌+◌, ◌==◌, pos, Bool, true, false, if◌then◌else◌, List, [], ◌∷◌, length, map, Option}
use Rattle.std.specs.Prelude.{None, Some, Result, Ok, Err, codes, slice_get}
use Rattle.dt_base.specs.declared.cell.Cell.{Cell}
use Rattle.dt_base.specs.declared.cell.Cell.TheVariants as is
use Rattle.dt_base.specs.declared.cell.ColType.{ColType}
use Rattle.dt_base.specs.declared.cell.ColType.TheVariants as ty
use Rattle.dt_base.specs.declared.fault.Fault.{Fault}
use Rattle.dt_base.specs.declared.fault.Code.{Code}
use Rattle.dt_base.specs.declared.fault.Code.TheVariants.{E02, E03, E04, E20}
use Rattle.dt_base.specs.Fault.{fault}
use Rattle.dt_model.specs.Table.{PlainTable, ColumnHead, column_of, place_of}
use Rattle.dt_model.specs.Vector.{Vector as Cells, gathered}
use Rattle.row_model.specs.Rows.{Places}
use Rattle.func_table.specs.declared.special.Special.{Special}
use Rattle.func_table.specs.declared.special.Special.TheVariants as special
use Rattle.func_table.specs.Special.{special_of}

-- a table, or a vector
pub data Var : Type 0 where
  Table : PlainTable → Var
  Vector : Cells → Var

-- columns side by side, with their names
pub record Columns : Type 0 where
  pub names : List (List ℕ)
  pub vectors : List Cells

-- what the script's names are bound to
abbrev pub Vars : Type 0
Vars = List ℕ → Option Var

-- The surroundings of an expression: whether it stands in a bracket; the columns of its rows; the
-- columns of the one row that all rows share, as a group's; where each row stands in the table, counted
-- from 0, or none for a row of NA; the number of rows; the number of the group, counted from 1, or 0
-- where there are no groups; which columns of the rows are those of `.SD`; and the script's names.
pub record Env : Type 0 where
  pub inside : Bool
  pub rows : Columns
  pub single : Columns
  pub places : Places
  pub count : ℕ
  pub group : ℕ
  pub sd : List ℕ
  pub vars : Vars

-- a vector of one cell
abbrev pub one_cell : ColType → Cell → Cells
one_cell kind cell = record { kind = kind; cells = cell ∷ [] }

-- the vector of one integer
abbrev pub integer : ℕ → Cells
integer n = one_cell ty.Int (is.Int (pos n))

-- ---- The columns of a table, and surroundings

-- the columns from place c on, each with its cells row by row
abbrev pub vectors_from : ℕ → List ColumnHead → List (List Cell) → List Cells
vectors_from c [] rows = []
vectors_from c (h ∷ rest) rows = record { kind = h.kind; cells = column_of c rows } ∷ vectors_from (c + 1) rest rows

abbrev pub columns_in : PlainTable → Columns
columns_in t = record { names = map (λ h. h.name) t.columns; vectors = vectors_from 0 t.columns t.rows }

-- the same columns with the rows at these places, and NA for none
abbrev pub columns_at : Columns → Places → Columns
columns_at t places = record { names = t.names; vectors = map (λ v. gathered v places) t.vectors }

abbrev pub no_columns : Columns
no_columns = record { names = []; vectors = [] }

-- outside brackets there are the script's names alone
abbrev pub outside : Vars → Env
outside vars = record {
  inside = false;
  rows = no_columns;
  single = no_columns;
  places = [];
  count = 0;
  group = 0;
  sd = [];
  vars = vars;
}

-- in a bracket without groups there are columns, whose rows stand at these places of the table
abbrev pub in_rows : Columns → Places → Vars → Env
in_rows t places vars = record {
  inside = true;
  rows = t;
  single = no_columns;
  places = places;
  count = length places;
  group = 0;
  sd = [];
  vars = vars;
}

-- ---- Columns and the script's names

abbrev pub vector_at : List Cells → Option ℕ → Option Cells
vector_at vectors None = None
vector_at vectors (Some c) = slice_get vectors c

-- the column of this name
abbrev pub column_named : List ℕ → Columns → Option Cells
column_named name t = vector_at t.vectors (place_of name t.names)

-- the column that was found, or else
abbrev pub found_or : Option Cells → Result Cells Fault → Result Cells Fault
found_or (Some v) r = Ok v
found_or None r = r

-- Where a vector is wanted a table is a fault of the type. An unknown name has the fault that its
-- place in the script gives it.
abbrev pub var_vector : Code → List ℕ → Option Var → Result Cells Fault
var_vector code name None = Err (fault code name)
var_vector code name (Some (Table t)) = Err (fault E04 name)
var_vector code name (Some (Vector v)) = Ok v

-- in a bracket columns come before the script's names, and the shared row's before the rows'
abbrev pub bracket_vector : Env → List ℕ → Result Cells Fault
bracket_vector s name =
    found_or (column_named name s.single) (found_or (column_named name s.rows) (var_vector E03 name (s.vars name)))

-- ---- The special names of a bracket

-- a row's number, counted from 1; NA of a row of NA
abbrev pub row_number : Option ℕ → Cell
row_number None = is.Na
row_number (Some p) = is.Int (pos (p + 1))

-- the group's number; where there are no groups it is an unknown column
abbrev pub group_vector : ℕ → Result Cells Fault
group_vector n = if n == 0 then Err (fault E03 (codes ".GRP")) else Ok (integer n)

-- `.N`, `.I`, `.GRP`, and `.SD`, which is a table
abbrev pub special_vector : Env → Special → Result Cells Fault
special_vector s special.Count = Ok (integer s.count)
special_vector s special.Places = Ok (record { kind = ty.Int; cells = map row_number s.places })
special_vector s special.Group = group_vector s.group
special_vector s special.Rows = Err (fault E04 (codes ".SD"))

-- a special name keeps its meaning where a column has that name
abbrev pub special_or : Env → List ℕ → Option Special → Result Cells Fault
special_or s name (Some p) = special_vector s p
special_or s name None = bracket_vector s name

-- ---- Names

-- outside brackets there are the script's names alone
abbrev pub name_vector : Env → List ℕ → Result Cells Fault
name_vector s name =
    if s.inside then special_or s name (special_of name) else var_vector E02 name (s.vars name)

-- where the name of a table is wanted there are the script's names alone, in brackets too
abbrev pub var_table : List ℕ → Option Var → Result PlainTable Fault
var_table name None = Err (fault E02 name)
var_table name (Some (Vector v)) = Err (fault E20 name)
var_table name (Some (Table t)) = Ok t
