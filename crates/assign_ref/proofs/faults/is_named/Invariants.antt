use Rattle.std.proofs.Common.{◌≡◌, drop}
use Rattle.assign_model.specs.Targets.{is_name, names_of}
use Rattle.assign_ref.specs.Seen.{targets_seen}
use Rattle.assign_ref.proofs.faults.is_named.Given as goal

abbrev pub invariant-loop-target : goal.invariant-loop-target
invariant-loop-target l = is_name (names_of (targets_seen (drop l.target-index l.targets))) l.name
    ≡ is_name (names_of (targets_seen l.targets)) l.name
