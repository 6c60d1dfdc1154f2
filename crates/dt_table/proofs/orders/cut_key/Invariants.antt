use Rattle.std.proofs.Common.{◌≡◌, ◌≤◌, ◌-◌, ◌++◌, take, drop, length}
use Rattle.dt_table.specs.Change.{key_changed, parts_seen}
use Rattle.dt_table.proofs.orders.cut_key.Given as goal

-- the first k columns are moved, and what is left gives the rest
abbrev pub invariant-loop-k : goal.invariant-loop-k
invariant-loop-k l = record {
  moved : take l.k l.key.items ++ key_changed (parts_seen l.parts) (drop l.k l.key.items)
      ≡ key_changed (parts_seen l.parts) l.fn.key.items;
  bound : l.k ≤ length l.key.items;
}

abbrev pub decreases-loop-k : goal.decreases-loop-k
decreases-loop-k l = length l.key.items - l.k
