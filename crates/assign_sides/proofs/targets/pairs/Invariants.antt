use Rattle.std.proofs.Common.{◌≡◌, drop, length, map, take}
use Rattle.assign_ref.specs.Seen.{targets_seen}
use Rattle.assign_sides.specs.Seen.{value_seen}
use Rattle.session_model.specs.Assigned.{paired}
use Rattle.assign_sides.proofs.targets.pairs.Given as goal

-- the targets of the first k names; the values from k on are as they were
abbrev pub invariant-loop-k : goal.invariant-loop-k
invariant-loop-k l = record {
  so_far : targets_seen l.targets.items ≡ paired (take l.k l.names) (map value_seen (take l.k l.fn.values));
  left : drop l.k l.values ≡ drop l.k l.fn.values;
  count : length l.values ≡ length l.fn.values;
}
