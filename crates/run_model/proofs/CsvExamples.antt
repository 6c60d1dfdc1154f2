-- Examples of CSV files, each computed.
use Rattle.std.proofs.Common.{◌≡◌, Ok, Err, Some, None, pos, negsuc, true, false, refl, codes, [], ◌∷◌, ◌++◌, ℕ, List}
use Rattle.std.proofs.Common.{length}
use Rattle.dt_base.specs.declared.cell.Cell.TheVariants as cell
use Rattle.dt_base.specs.declared.cell.ColType.TheVariants as ty
use Rattle.dt_base.specs.Warns.{no_warns}
use Rattle.dt_model.specs.Table.{no_table}
use Rattle.run_model.specs.Csv.{read_csv, read_records, written_csv, FileFault, Ragged, NotUtf8, TooManyColumns}
use Rattle.run_model.specs.Csv.{TooManyRows, rows_fault, header_fault}
use Rattle.run_model.specs.CsvCells.{fields_type, field_cell, fields_vector}
use Rattle.run_model.specs.CsvNames.{column_names, name_warns}
use Rattle.std.specs.Fmt.{digits}
use Rattle.std.specs.Str.{is_utf8, chars}
use lib.Utf8.{encode}
use Rattle.csv.proofs.OnLiterals.{csv_on_literals}

-- the type looks at all fields
all_integers : fields_type (codes "007" ∷ codes "" ∷ []) ≡ ty.Int
all_integers = refl

last_is_text : fields_type (codes "1" ∷ codes "NA" ∷ codes "x" ∷ []) ≡ ty.Chr
last_is_text = refl

nothing_told : fields_type (codes "" ∷ codes "NA" ∷ []) ≡ ty.Lgl
nothing_told = refl

-- cells
empty_integer : field_cell ty.Int (codes "") ≡ cell.Na
empty_integer = refl

empty_text : field_cell ty.Chr (codes "") ≡ cell.Text []
empty_text = refl

signed_integer : field_cell ty.Int (codes "+5") ≡ cell.Int (pos 5)
signed_integer = refl

-- names
repeated : column_names (codes "a" ∷ codes "a" ∷ codes "a.1" ∷ []) ≡ (codes "a" ∷ codes "a.1" ∷ codes "a.1.1" ∷ [])
unfolding digits
repeated = refl

empty_header : column_names (codes "V2" ∷ codes "" ∷ []) ≡ (codes "V2" ∷ codes "V2.1" ∷ [])
unfolding digits
empty_header = refl

-- files
no_record : read_csv (codes "\n\n") ≡ Ok (no_table, no_warns)
unfolding csv_on_literals
no_record = refl

third_record : read_csv (codes "a,b\n1,2\n3") ≡ Err (Ragged 3)
unfolding csv_on_literals is_utf8 chars encode
third_record = refl
