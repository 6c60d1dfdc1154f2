use Rattle.std.proofs.Common.{◌≡◌, ◌+◌, ◌≤◌, drop, length}
use Rattle.std.specs.List.{filter}
use Rattle.assign_model.specs.Targets.{adds, names_of}
use Rattle.assign_ref.specs.Seen.{targets_seen}
use Rattle.assign_ref.proofs.faults.count_add.Given as goal

abbrev pub invariant-loop-target : goal.invariant-loop-target
invariant-loop-target l = record {
  count : l.count + length (names_of (filter (adds l.t.names) (targets_seen (drop l.target-index l.targets))))
      ≡ length (names_of (filter (adds l.t.names) (targets_seen l.targets)));
  bound : l.count ≤ l.target-index;
}
