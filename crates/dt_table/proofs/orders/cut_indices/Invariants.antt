use Rattle.std.proofs.Common.{◌≡◌, ◌≤◌, ◌-◌, ◌++◌, take, drop, length}
use Rattle.dt_table.specs.Change.{indices_changed, parts_seen}
use Rattle.dt_table.proofs.orders.cut_indices.Given as goal

-- the first k indices stay and are moved, and what is left gives the rest
abbrev pub invariant-loop-k : goal.invariant-loop-k
invariant-loop-k l = record {
  moved : take l.k l.indices.items ++ indices_changed (parts_seen l.parts) (drop l.k l.indices.items)
      ≡ indices_changed (parts_seen l.parts) l.fn.indices.items;
  bound : l.k ≤ length l.indices.items;
}

abbrev pub decreases-loop-k : goal.decreases-loop-k
decreases-loop-k l = length l.indices.items - l.k
