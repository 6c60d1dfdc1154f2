use Rattle.std.proofs.Common.{◌≡◌, take}
use Rattle.session_model.specs.Assigned.{rows_there}
use Rattle.bracket_assign.proofs.assignments.rows_there.Given as goal

abbrev pub invariant-loop-row : goal.invariant-loop-row
invariant-loop-row l = l.rows.items ≡ rows_there (take l.row-index l.positions)
