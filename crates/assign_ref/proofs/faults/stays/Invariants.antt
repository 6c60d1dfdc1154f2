use Rattle.std.proofs.Common.{◌≡◌, drop}
use Rattle.assign_model.specs.Targets.{stays}
use Rattle.assign_ref.specs.Seen.{targets_seen}
use Rattle.assign_ref.proofs.faults.stays.Given as goal

abbrev pub invariant-loop-target : goal.invariant-loop-target
invariant-loop-target l = stays (targets_seen (drop l.target-index l.targets)) l.name
    ≡ stays (targets_seen l.targets) l.name
