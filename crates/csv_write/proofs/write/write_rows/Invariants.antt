use Rattle.std.proofs.Common.{◌≡◌, ◌+◌, ◌-◌, ◌*◌, ◌++◌, length}
use Rattle.std.specs.List.{range_with_len}
use Rattle.csv_write.specs.Written.{written, IsIdle}
use Rattle.csv_write.proofs.WriteFacts.{rows_text}
use Rattle.na_vector.specs.Frame.{vectors_of}
use Rattle.csv_write.proofs.write.write_rows.Given as goal

-- what is written and the texts of the rows that are left are the texts of all rows
abbrev pub invariant-loop-r : goal.invariant-loop-r
invariant-loop-r g l =
    IsIdle l.writer
    × (written l.writer ++ rows_text (vectors_of l.frame.columns) (range_with_len l.r (l.frame.rows - l.r))
    ≡ written l.fn.writer ++ rows_text (vectors_of l.frame.columns) (range_with_len 0 l.frame.rows))
    × (l.steps ≡ l.fn.steps + l.r * length l.frame.columns)
