use Rattle.std.proofs.Common.{◌≡◌, ◌≤◌, length}
use Rattle.na_vector.specs.Frame.{rows_with}
use Rattle.dt_table.specs.Change.{parts_seen}
use Rattle.dt_table.specs.Parts.{columns_left_from}
use Rattle.dt_table.proofs.parts.drop_columns.Given as goal

-- from place c on the columns that go are out
abbrev pub invariant-loop-c : goal.invariant-loop-c
invariant-loop-c l = record {
  names : l.names.items ≡ columns_left_from (parts_seen l.parts) l.c l.width l.fn.names.items;
  columns : l.frame.columns ≡ columns_left_from (parts_seen l.parts) l.c l.width l.fn.frame.columns;
  rows : l.frame.rows ≡ rows_with (length l.frame.columns) l.fn.frame.rows;
  bound : l.c ≤ l.width;
}

abbrev pub decreases-loop-c : goal.decreases-loop-c
decreases-loop-c l = l.c
