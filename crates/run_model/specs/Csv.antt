-- CSV files: what a file's bytes give, and the bytes that a table is written as.
--   Record                a record as csv gives it: its fields, as bytes
--   FileFault             why a file is refused
--   header_fault h        the fault of the header, if it has one
--   row_fault w b r       the fault of record r below the header, if it has one
--   rows_fault w b rs     the first fault of records, in their order
--   fields_at c rs        the fields of column c, counted from 0
--   records_columns h rs  the columns of a file with header h and records rs below it
--   records_table h rs    its table
--   read_records rs       what the records of a file give
--   read_csv bytes        what the bytes of a file give
--   written_rows t        the records that a table is written as
--   written_csv t         the bytes that a table is written as
use Rattle.std.specs.Prelude.{ℕ, ◌+◌, ◌++◌, ◌==◌, nat_lt, nat_le, not, List, [], ◌∷◌, length, map, Option, None, Some}
use Rattle.std.specs.Prelude.{slice_index_or, if◌then◌else◌, Result, Ok, Err}
use Rattle.std.specs.List.{list_all, range_with_len, concat}
use Rattle.std.specs.Str.{is_utf8}
use Rattle.csv.specs.Reading.{records, default_config, strip_bom}
use Rattle.csv.specs.Writing.{row_text, default_writer}
use Rattle.dt_base.specs.declared.limits.TheConstants.{MAX_COLUMNS, MAX_ROWS}
use Rattle.dt_base.specs.declared.warns.Warns.{Warns}
use Rattle.dt_base.specs.Warns.{no_warns}
use Rattle.dt_model.specs.Table.{PlainTable, no_table, table_of}
use Rattle.dt_model.specs.Vector.{Vector}
use Rattle.run_model.specs.CsvCells.{fields_vector, cell_text}
use Rattle.run_model.specs.CsvNames.{column_names, name_warns}

-- a record: its fields
abbrev pub Record : Type 0
Record = List (List ℕ)

-- Why a file is refused: a record with another number of fields than the header, a record with a
-- field that is not UTF-8, too many columns, too many rows. Records count from 1 with the header.
pub data FileFault : Type 0 where
  Ragged : ℕ → FileFault
  NotUtf8 : ℕ → FileFault
  TooManyColumns : FileFault
  TooManyRows : FileFault

-- the header: the number of columns comes before UTF-8
abbrev pub header_fault : Record → Option FileFault
header_fault header =
    if nat_lt MAX_COLUMNS (length header) then Some TooManyColumns
    else (if not (list_all is_utf8 header) then Some (NotUtf8 1) else None)

-- A record below the header, with `before` of them before it: the number of rows comes first, then
-- the number of fields, then UTF-8.
abbrev pub row_fault : ℕ → ℕ → Record → Option FileFault
row_fault width before row =
    if nat_le MAX_ROWS before then Some TooManyRows
    else (if not (length row == width) then Some (Ragged (before + 2))
    else (if not (list_all is_utf8 row) then Some (NotUtf8 (before + 2)) else None))

-- the first of two faults
abbrev pub fault_or : Option FileFault → Option FileFault → Option FileFault
fault_or (Some f) _ = Some f
fault_or None after = after

-- the first fault of the records below the header, in their order
abbrev pub rows_fault : ℕ → ℕ → List Record → Option FileFault
rows_fault width before [] = None
rows_fault width before (row ∷ rest) = fault_or (row_fault width before row) (rows_fault width (before + 1) rest)

-- the fields of one column, counted from 0
abbrev pub fields_at : ℕ → List Record → List (List ℕ)
fields_at c rows = map (λ row. slice_index_or row c []) rows

-- the columns of a file: as many as the header has fields
abbrev pub records_columns : Record → List Record → List Vector
records_columns header rows = map (λ c. fields_vector (fields_at c rows)) (range_with_len 0 (length header))

-- the table of a file without a fault
abbrev pub records_table : Record → List Record → PlainTable
records_table header rows = table_of (column_names header) (length rows) (records_columns header rows)

-- a fault, or else the table
abbrev pub unless_fault : Option FileFault → PlainTable × Warns → Result (PlainTable × Warns) FileFault
unless_fault (Some f) _ = Err f
unless_fault None t = Ok t

-- no record gives a table without columns; else the first record is the header
abbrev pub read_records : List Record → Result (PlainTable × Warns) FileFault
read_records [] = Ok (no_table, no_warns)
read_records (header ∷ rows) =
    unless_fault (fault_or (header_fault header) (rows_fault (length header) 0 rows))
    (records_table header rows, name_warns header)

-- a byte order mark at the head is dropped, once; the records are those of csv's default reader
abbrev pub read_csv : List ℕ → Result (PlainTable × Warns) FileFault
read_csv bytes = read_records (records default_config (strip_bom bytes))

-- the header of names, and a record of texts for each row; nothing for a table without columns
abbrev pub written_rows : PlainTable → List Record
written_rows t =
    if length t.columns == 0 then [] else map (λ h. h.name) t.columns ∷ map (map cell_text) t.rows

-- the row texts of csv's default writer, one after the other
abbrev pub written_csv : PlainTable → List ℕ
written_csv t = concat (map (row_text default_writer) (written_rows t))
