use Rattle.std.proofs.Common.{◌≡◌, ◌+◌, ◌≤◌, drop}
use Rattle.dt_table.specs.Change.{texts_in}
use Rattle.dt_table.proofs.room.count_texts.Given as goal

abbrev pub invariant-loop-cell : goal.invariant-loop-cell
invariant-loop-cell l = record {
  count : l.count + texts_in (drop l.cell-index l.cells) ≡ texts_in l.cells;
  bound : l.count ≤ l.cell-index;
}
