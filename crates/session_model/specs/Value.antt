-- Values, and the tables that functions make.
--   Value               a table that has a number, a new table, a vector, or NULL
--   Alteration          what becomes of a table that has a number
--   Given               a value, its warnings, the table that it alters, and whether it is shown
--   plain_given v w     a value that alters nothing, with these warnings
--   Scene               the files, the state and the options that a statement meets
--   bound_value q b     what the name q gives that is bound to b
--   limit_fault l       the fault of a new table that passes the limit l
--   new_table names n vs    the new table of these columns of n cells, or its fault
--   file_table files q  what `fread` gives for the file q
--   copied t            what `copy` gives
--   wanted_table s v    the table of a value, where a table is wanted
--   printed_value s v   how a value prints
use Rattle.std.specs.Prelude.{ℕ, ◌+◌, nat_lt, Bool, true, if◌then◌else◌, List, [], length, Option, None, Some, Result}
use Rattle.std.specs.Prelude.{Ok, Err, codes}
use Rattle.std.specs.FinMap as finite
use Rattle.dt_base.specs.declared.fault.Fault.{Fault}
use Rattle.dt_base.specs.declared.fault.Code.TheVariants.{E02, E04, E07, E08, E09, E12, E15, E16, E17, E18, E19}
use Rattle.dt_base.specs.Fault.{fault}
use Rattle.dt_base.specs.declared.limits.TheConstants.{MAX_COLUMNS, MAX_FILE_BYTES, SPARE_COLUMNS}
use Rattle.dt_base.specs.declared.warns.Warns.{Warns}
use Rattle.dt_base.specs.Warns.{no_warns}
use Rattle.dt_model.specs.Table.{PlainTable, TableLimit, Rows, Columns, first_repeated, name_at, no_table, past_limit}
use Rattle.dt_model.specs.Table.{table_of}
use Rattle.dt_model.specs.Table as limit
use Rattle.dt_model.specs.Vector.{Vector}
use Rattle.dt_model.specs.State.{State, Bound}
use Rattle.dt_model.specs.State.{Table as NumberedTable, Vector as BoundVector}
use Rattle.func_table.specs.declared.options.Options.{Options}
use Rattle.run_model.specs.Csv.{read_csv, FileFault, Ragged, NotUtf8, TooManyColumns, TooManyRows}
use Rattle.run_model.specs.Printed.{printed_table, printed_vector, null_text}
use Rattle.vector_model.specs.Faults.{number_fault}
use Rattle.vector_model.specs.Then.{then_do}

-- a table that has a number, a new table, a vector, or NULL
pub data Value : Type 0 where
  Numbered : ℕ → Value
  New : PlainTable → Value
  Cells : Vector → Value
  Null : Value

-- The table of this number becomes another when the statement is done, and these of its columns are
-- assigned to.
pub record Alteration : Type 0 where
  pub number : ℕ
  pub names : List (List ℕ)
  pub table : PlainTable

-- A value and the warnings that it comes with, and the table that it alters. A value that is shown prints
-- where it is given no name.
pub record Given : Type 0 where
  pub value : Value
  pub warns : Warns
  pub alters : Option Alteration
  pub shown : Bool

-- a value that alters nothing
abbrev pub plain_given : Value → Warns → Given
plain_given v warns = record { value = v; warns = warns; alters = None; shown = true }

-- the bytes of the file of a name, if there is one
abbrev pub Look : Type 0
Look = List ℕ → Option (List ℕ)

-- what a statement meets
pub record Scene : Type 0 where
  pub files : Look
  pub state : State
  pub options : Options

-- a value without warnings
abbrev pub gives_value : Value → Result Given Fault
gives_value v = Ok (plain_given v no_warns)

-- ---- Names

-- what a name is bound to; a name that is bound to nothing is a fault
abbrev pub bound_value : List ℕ → Option Bound → Result Given Fault
bound_value name None = Err (fault E02 name)
bound_value name (Some (NumberedTable n)) = gives_value (Numbered n)
bound_value name (Some (BoundVector v)) = gives_value (Cells v)

-- ---- New tables

-- the fault of a limit that a new table passes
abbrev pub limit_fault : TableLimit → Fault
limit_fault Rows = fault E07 []
limit_fault limit.Cells = fault E08 []
limit_fault Columns = number_fault E09 MAX_COLUMNS

-- a table, unless it passes a limit
abbrev pub unless_past : Option TableLimit → PlainTable → Result PlainTable Fault
unless_past (Some l) t = Err (limit_fault l)
unless_past None t = Ok t

-- the first name that repeats an earlier one comes before the limits
abbrev pub checked_table : Option ℕ → List (List ℕ) → ℕ → List Vector → Result PlainTable Fault
checked_table (Some c) names rows vectors = Err (fault E12 (name_at names c))
checked_table None names rows vectors = unless_past (past_limit rows (length vectors)) (table_of names rows vectors)

abbrev pub new_table : List (List ℕ) → ℕ → List Vector → Result PlainTable Fault
new_table names rows vectors = checked_table (first_repeated names) names rows vectors

-- a new table as a value
abbrev pub gives_table : PlainTable → Result Given Fault
gives_table t = gives_value (New t)

-- ---- `fread`

-- the bytes of a file that is read, if it is there and not longer than the limit
abbrev pub file_bytes : ℕ → List ℕ → Option (List ℕ) → Result (List ℕ) Fault
file_bytes limit file None = Err (fault E15 file)
file_bytes limit file (Some bytes) =
    if nat_lt limit (length bytes) then Err (record { code = E16; what = file; n = limit; m = 0 }) else Ok bytes

-- the fault of a file whose records are at fault
abbrev pub record_fault : FileFault → Fault
record_fault (Ragged at) = number_fault E17 at
record_fault (NotUtf8 at) = number_fault E18 at
record_fault TooManyColumns = number_fault E09 MAX_COLUMNS
record_fault TooManyRows = fault E07 []

-- a file's table and its warnings, or its fault
abbrev pub records_given : Result (PlainTable × Warns) FileFault → Result Given Fault
records_given (Ok t) = Ok (plain_given (New t.0) t.1)
records_given (Err f) = Err (record_fault f)

-- the table of a file
abbrev pub file_table : Look → List ℕ → Result Given Fault
file_table files file = then_do (file_bytes MAX_FILE_BYTES file (files file)) (λ bytes. records_given (read_csv bytes))

-- ---- `copy`

-- a table that has its own slots: 1,024 more than columns
abbrev pub copied : PlainTable → PlainTable
copied t = record t { slots = length t.columns + SPARE_COLUMNS }

-- the table of a number; each number of a state's names has one
abbrev pub numbered_table : State → ℕ → PlainTable
numbered_table s n =
    elim (finite.get s.tables n) [ Some t ↦ t | None ↦ no_table ]

-- the table of a value, where a table is wanted
abbrev pub wanted_table : State → Value → Result PlainTable Fault
wanted_table s (Numbered n) = Ok (numbered_table s n)
wanted_table s (New t) = Ok t
wanted_table s (Cells v) = Err (fault E19 (codes "table"))
wanted_table s Null = Err (fault E04 (codes "NULL"))

-- ---- Printing

abbrev pub printed_plain : PlainTable → List ℕ
printed_plain t = printed_table t.columns t.rows

-- a table prints as a table, a vector as a vector
abbrev pub printed_value : State → Value → List ℕ
printed_value s (Numbered n) = printed_plain (numbered_table s n)
printed_value s (New t) = printed_plain t
printed_value s (Cells v) = printed_vector v.kind v.cells
printed_value s Null = null_text
