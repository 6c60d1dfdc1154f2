use Rattle.std.proofs.Common.{◌≡◌, ◌+◌, ◌++◌, [], drop, map}
use Rattle.csv.specs.Records.{fields_of, partial_of}
use Rattle.dt_model.specs.Table.{row_at}
use Rattle.na_vector.specs.Frame.{vectors_of}
use Rattle.run_model.specs.CsvCells.{cell_text}
use Rattle.csv_write.proofs.write.take_row.Given as goal

-- the fields so far and the texts of the cells that are left are the texts of all
abbrev pub invariant-loop-c : goal.invariant-loop-c
invariant-loop-c g l =
    (fields_of l.row ++ map cell_text (row_at (vectors_of (drop l.c l.frame.columns)) l.r)
    ≡ map cell_text (row_at (vectors_of l.frame.columns) l.r))
    × (partial_of l.row ≡ [])
    × (l.steps ≡ l.fn.steps + l.c)
