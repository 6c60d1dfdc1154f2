-- What contracts see of an assignment in a bracket.
--   assigned_seen t a    the columns that are assigned to, the table t, changed, and the warnings
use Rattle.assign_sides.specs.declared.assigned.Assigned.{Assigned}
use Rattle.dt_table.specs.Change.{part_names}
use Rattle.dt_table.specs.Plain.{plain_changed}
use Rattle.dt_table.specs.Table.{TableSeen}
use Rattle.session_model.specs.Meanings as model

-- the columns that are assigned to, and the table before the bracket, changed, with the warnings
abbrev pub assigned_seen : TableSeen → Assigned → model.Answer
assigned_seen t a = record {
  outcome = model.Assigned (part_names t.names a.change.parts) (plain_changed t a.change);
  warns = a.warns;
}
