use Rattle.std.proofs.Common.{◌≡◌, None, map, take}
use Rattle.assign_ref.specs.Seen.{targets_seen}
use Rattle.session_model.specs.Assigned.{target}
use Rattle.assign_sides.proofs.targets.deletions.Given as goal

abbrev pub invariant-loop-name : goal.invariant-loop-name
invariant-loop-name l = targets_seen l.targets.items ≡ map (λ name. target name None) (take l.name-index l.names)
