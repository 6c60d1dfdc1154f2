use Rattle.std.proofs.Common.{◌≡◌, ◌++◌, [], drop}
use Rattle.csv.specs.Records.{fields_of, partial_of}
use Rattle.csv_write.proofs.write.write_names.Given as goal

-- the fields so far and the names that are left are all names
abbrev pub invariant-loop-name : goal.invariant-loop-name
invariant-loop-name l = (fields_of l.row ++ drop l.name-index l.names ≡ l.names) × (partial_of l.row ≡ [])
