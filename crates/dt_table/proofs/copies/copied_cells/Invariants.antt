use Rattle.std.proofs.Common.{◌≡◌, take}
use Rattle.dt_table.proofs.copies.copied_cells.Given as goal

abbrev pub invariant-loop-cell : goal.invariant-loop-cell
invariant-loop-cell l = l.out.items ≡ take l.cell-index l.cells
