use Rattle.assign_ref.specs.Seen.{rows_seen, targets_seen}
use Rattle.assign_sides.proofs.Told.{told_refused}
use Rattle.assign_sides.specs.Seen.{assigned_seen}
use Rattle.assign_sides.proofs.assigned.changed.Goals as goal

-- the fault of a target is told by its column's name
pub returns-in-Err-clause-answer : goal.returns-in-Err-clause-answer
returns-in-Err-clause-answer g c =
    told_refused (assigned_seen c.args.t.now) c.args.t.now (rows_seen c.args.rows) (targets_seen c.args.targets.items)
    c.args.names.now c.in-Err.fail c.told.result c.names.ensures.table c.in-Err.ensures.fault c.told.ensures.told
