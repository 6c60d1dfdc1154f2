use Rattle.std.proofs.Common.{◌≡◌, ◌++◌, map, take, drop}
use Rattle.dt_table.specs.Change.{stays_before, parts_seen}
use Rattle.dt_table.proofs.orders.move_columns.Given as goal

abbrev pub invariant-loop-k : goal.invariant-loop-k
invariant-loop-k l = l.cols.items ≡ map (stays_before (parts_seen l.parts)) (take l.k l.fn.cols.items) ++ drop l.k
    l.fn.cols.items
