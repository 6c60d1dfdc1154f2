use Rattle.std.proofs.Common.{◌≡◌, ◌<◌, ◌≤◌, ℕ, get_or, length}
use Rattle.csv_edge.specs.Filling.{Gains}
use Rattle.csv_edge.specs.Left.{left, IsOpen}
use Rattle.csv_edge.specs.declared.filling.Filling.{Filling}
use Rattle.run_model.specs.Csv.{rows_fault, fields_at}
use Rattle.csv_edge.proofs.columns.read_rows.Given as goal

-- what is left has the fault that all have, and the columns gain the fields of what is left
abbrev pub invariant-loop-row : goal.invariant-loop-row
invariant-loop-row l =
    IsOpen l.reader
    × (rows_fault (length l.fn.columns) l.before (left l.reader)
    ≡ rows_fault (length l.fn.columns) 0 (left l.fn.reader))
    × ((c : ℕ) (d after : Filling) → c < length l.fn.columns
    → Gains l.again (get_or l.columns c d) after (fields_at c (left l.reader))
    → Gains l.again (get_or l.fn.columns c d) after (fields_at c (left l.fn.reader)))
    × (l.before ≤ 16777216)

-- fewer records are left each time
abbrev pub decreases-loop-row : goal.decreases-loop-row
decreases-loop-row l = length (left l.reader)
