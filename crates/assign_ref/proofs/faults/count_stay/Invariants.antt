use Rattle.std.proofs.Common.{◌≡◌, ◌+◌, ◌≤◌, drop, length}
use Rattle.std.specs.List.{filter}
use Rattle.assign_model.specs.Targets.{stays}
use Rattle.assign_ref.specs.Seen.{targets_seen}
use Rattle.assign_ref.proofs.faults.count_stay.Given as goal

abbrev pub invariant-loop-name : goal.invariant-loop-name
invariant-loop-name l = record {
  count : l.count + length (filter (stays (targets_seen l.targets)) (drop l.name-index l.names))
      ≡ length (filter (stays (targets_seen l.targets)) l.names);
  bound : l.count ≤ l.name-index;
}
