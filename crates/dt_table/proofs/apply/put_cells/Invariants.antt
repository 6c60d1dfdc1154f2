use Rattle.std.proofs.Common.{◌≡◌, ◌≤◌, ◌+◌, drop, length, set}
use Rattle.na_vector.specs.Frame.{column_at}
use Rattle.dt_table.specs.Change.{texts_in}
use Rattle.dt_table.specs.Table.{put_in_order}
use Rattle.dt_table.proofs.apply.put_cells.Given as goal

-- what is left to be written makes of the column what all makes of the old one
abbrev pub invariant-loop-k : goal.invariant-loop-k
invariant-loop-k g l = record {
  cells : put_in_order (drop l.k l.at) (drop l.k l.fn.cells) (column_at l.frame.columns l.c).vector.cells
      ≡ put_in_order l.at l.fn.cells (column_at l.fn.frame.columns l.c).vector.cells;
  left : drop l.k l.cells ≡ drop l.k l.fn.cells;
  count : length l.cells ≡ length l.fn.cells;
  kind : (column_at l.frame.columns l.c).vector.kind ≡ (column_at l.fn.frame.columns l.c).vector.kind;
  others : l.frame.columns ≡ set l.fn.frame.columns l.c (column_at l.frame.columns l.c);
  room : texts_in (drop l.k l.fn.cells) ≤ (column_at l.frame.columns l.c).spare;
  rows : l.frame.rows ≡ l.fn.frame.rows;
  spare : l.frame.spare ≡ l.fn.frame.spare;
  touches : l.steps ≡ l.fn.steps + l.k;
}
