use Rattle.std.proofs.Common.{◌≡◌, drop}
use Rattle.assign_model.specs.Targets.{targets_fault}
use Rattle.assign_ref.specs.Seen.{rows_seen, targets_seen}
use Rattle.assign_ref.proofs.faults.check_targets.Given as goal

abbrev pub invariant-loop-k : goal.invariant-loop-k
invariant-loop-k l = targets_fault l.t.names l.t.frame.rows (rows_seen l.rows) (targets_seen l.targets) l.k
    (drop l.k (targets_seen l.targets)) ≡ targets_fault l.t.names l.t.frame.rows (rows_seen l.rows)
    (targets_seen l.targets) 0 (targets_seen l.targets)
