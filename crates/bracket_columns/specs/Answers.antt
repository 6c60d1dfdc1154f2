-- What contracts see of what j gives.
--   new_seen t         a new table, as an answer
--   computed_seen c    a new table or a vector, as an answer
use Rattle.dt_table.specs.Plain.{plain}
use Rattle.bracket_columns.specs.declared.answer.Computed.{Computed}
use Rattle.bracket_columns.specs.declared.answer.Computed.TheVariants.{Table, Vector}
use Rattle.bracket_columns.specs.declared.answer.NewTable.{NewTable}
use Rattle.session_model.specs.Meanings as model

-- a new table with its warnings
abbrev pub new_seen : NewTable → model.Answer
new_seen t = record { outcome = model.Table (plain t.table); warns = t.warns }

-- a new table, or a vector
abbrev pub computed_seen : Computed → model.Answer
computed_seen (Table t) = new_seen t
computed_seen (Vector v) = record { outcome = model.Vector v.column.vector; warns = v.warns }
