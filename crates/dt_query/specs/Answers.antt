-- What contracts see of what a bracket gives behind a table.
--   plain_outcome t o   the outcome behind the table t, with tables as plain tables and a column as its vector
--   plain_answer t a    an outcome and its warnings
--   OutcomeFits t o     a change may be made of the table t
--   outcome_of c        what j gave, as an outcome
use Rattle.bracket_columns.specs.declared.answer.Computed.{Computed}
use Rattle.bracket_columns.specs.declared.answer.Computed.TheVariants as computed
use Rattle.dt_query.specs.declared.answer.Answer.{Answer}
use Rattle.dt_query.specs.declared.answer.Outcome.{Outcome}
use Rattle.dt_query.specs.declared.answer.Outcome.TheVariants.{Same, Table, Vector, Assigned}
use Rattle.dt_table.specs.Change.{FitsTable, part_names}
use Rattle.dt_table.specs.Plain.{plain, plain_changed}
use Rattle.dt_table.specs.Table.{TableSeen}
use Rattle.session_model.specs.Meanings as model

-- a table as a plain table, a column as its vector, a change as the columns that it is to and the plain table
-- that it makes
abbrev pub plain_outcome : TableSeen → Outcome → model.Outcome
plain_outcome t Same = model.Same
plain_outcome t (Table u) = model.Table (plain u)
plain_outcome t (Vector c) = model.Vector c.vector
plain_outcome t (Assigned ch) = model.Assigned (part_names t.names ch.parts) (plain_changed t ch)

-- an outcome and its warnings
abbrev pub plain_answer : TableSeen → Answer → model.Answer
plain_answer t a = record { outcome = plain_outcome t a.outcome; warns = a.warns }

-- a change may be made of the table
abbrev pub OutcomeFits : TableSeen → Outcome → Type 0
OutcomeFits t (Assigned ch) = FitsTable t ch
OutcomeFits t _ = Unit {0}

-- what j gave, as an outcome
abbrev pub outcome_of : Computed → Outcome
outcome_of (computed.Table t) = Table t.table
outcome_of (computed.Vector v) = Vector v.column
