use Rattle.std.proofs.Common.{◌≡◌, Some, map, take}
use Rattle.assign_ref.specs.Seen.{targets_seen}
use Rattle.session_model.specs.Assigned.{target}
use Rattle.assign_sides.proofs.targets.copies.Given as goal

abbrev pub invariant-loop-name : goal.invariant-loop-name
invariant-loop-name g l =
    targets_seen l.targets.items ≡ map (λ name. target name (Some l.column.vector)) (take l.name-index l.names)
