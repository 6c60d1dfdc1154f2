-- How a refusal tells a fault of a file.
--   Tells e f      the refusal e tells the fault f; want of memory may come in place of any answer
--   Refuses e r    the refusal e is what the definition of reading answers
use Rattle.std.specs.Prelude.{◌≡◌, Option, Some, Result, Err}
use Rattle.dt_base.specs.declared.warns.Warns.{Warns}
use Rattle.dt_model.specs.Table.{PlainTable}
use Rattle.run_model.specs.Csv.{FileFault}
use Rattle.run_model.specs.Csv as file
use Rattle.csv_edge.specs.declared.fail.CsvFail.{CsvFail}
use Rattle.csv_edge.specs.declared.fail.CsvFail.TheVariants.{Ragged, NotUtf8, TooManyColumns, TooManyRows, NoMemory}

-- the fault is the one that the refusal names, at the record that it names
abbrev pub Tells : CsvFail → Option FileFault → Type 0
Tells (Ragged at) f = f ≡ Some (file.Ragged at)
Tells (NotUtf8 at) f = f ≡ Some (file.NotUtf8 at)
Tells TooManyColumns f = f ≡ Some file.TooManyColumns
Tells TooManyRows f = f ≡ Some file.TooManyRows
Tells (NoMemory _) f = Unit {0}

-- the same of the answer of reading a file
abbrev pub Refuses : CsvFail → Result (PlainTable × Warns) FileFault → Type 0
Refuses (Ragged at) r = r ≡ Err (file.Ragged at)
Refuses (NotUtf8 at) r = r ≡ Err (file.NotUtf8 at)
Refuses TooManyColumns r = r ≡ Err file.TooManyColumns
Refuses TooManyRows r = r ≡ Err file.TooManyRows
Refuses (NoMemory _) r = Unit {0}
