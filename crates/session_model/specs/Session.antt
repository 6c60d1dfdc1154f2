-- The state of a session.
--   SessionState      names, tables and vectors, and the two options
--   both_on           both options, as a session begins
--   empty_session     no name, no table, and both options on
use Rattle.std.specs.Prelude.{true}
use Rattle.dt_model.specs.State.{State, empty_state}
use Rattle.func_table.specs.declared.options.Options.{Options}

-- names, tables and vectors, and the two options
pub record SessionState : Type 0 where
  pub state : State
  pub options : Options

-- both options, as a session begins
abbrev pub both_on : Options
both_on = record { auto_index = true; use_index = true }

abbrev pub empty_session : SessionState
empty_session = record { state = empty_state; options = both_on }
