use Rattle.std.proofs.Common.{◌≡◌, [], drop, length}
use Rattle.csv.specs.Records.{fields_of}
use Rattle.run_model.specs.CsvNames.{names_after}
use Rattle.header_names.proofs.names.column_names.Given as goal

-- the headers that are left give behind the names so far what all headers give
abbrev pub invariant-loop-i : goal.invariant-loop-i
invariant-loop-i l =
    (names_after l.names (drop l.i (fields_of l.header)) ≡ names_after [] (fields_of l.header)) × (length l.names ≡ l.i)
