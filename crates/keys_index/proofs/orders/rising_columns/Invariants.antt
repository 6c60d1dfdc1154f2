use Rattle.std.proofs.Common.{◌≡◌, map, take}
use Rattle.keys_index.specs.Columns.{rises}
use Rattle.keys_index.proofs.orders.rising_columns.Given as goal

abbrev pub invariant-loop-col : goal.invariant-loop-col
invariant-loop-col l = l.by.items ≡ map rises (take l.col-index l.cols)
