-- What a statement does in a state, or its first fault.
--   shown_text s g      what a value without a name prints
--   bare s g            a value without a name
--   value_change q v    what binding the name q to a value changes
--   assigned q g        a value with a name: the name is bound to it
--   step files s stmt   the statement's effect, or its fault
use Rattle.std.specs.Prelude.{ℕ, false, not, if◌then◌else◌, List, [], Option, None, Some, Result, Ok, Err}
use Rattle.dt_base.specs.declared.fault.Fault.{Fault}
use Rattle.dt_base.specs.declared.fault.Code.TheVariants.{E19}
use Rattle.dt_base.specs.Fault.{fault}
use Rattle.dt_model.specs.State.{State}
use Rattle.dt_model.specs.State.{Table as NumberedTable, Vector as BoundVector}
use Rattle.dt_model.specs.Table.{PlainTable}
use Rattle.dt_tree.specs.declared.tree.Stmt.{Stmt}
use Rattle.vector_model.specs.Then.{then_do}
use Rattle.session_model.specs.Value.{Alteration, Value, Numbered, New, Cells, Null, Given, Look, Scene}
use Rattle.session_model.specs.Value.{printed_value}
use Rattle.session_model.specs.Effect.{Effect, Change, NameChange, Nothing, BindNew, Bind, changes_with, tabled}
use Rattle.session_model.specs.Session.{SessionState}
use Rattle.vector_model.specs.Faults.{unbuilt}
use Rattle.session_model.specs.Meaning.{meaning}
use Rattle.session_model.specs.Meanings.{Meaning}

-- the table that a value alters, by its number
abbrev pub altered_table : Option Alteration → Option (ℕ × PlainTable)
altered_table None = None
altered_table (Some a) = Some (a.number, a.table)

-- what a value that is given no name prints: itself, where it is shown, in the state in which the table that
-- it alters is altered
abbrev pub shown_text : State → Given → List ℕ
shown_text s g = if g.shown then printed_value (tabled s (altered_table g.alters)) g.value else []

-- the table that a value alters is the change
abbrev pub altering : Given → NameChange → Change
altering g c = record { table = altered_table g.alters; name = c; options = None }

abbrev pub bare : State → Given → Result Effect Fault
bare s g = Ok (record { text = shown_text s g; file = None; warns = g.warns; change = altering g Nothing })

-- A name is bound to a value. A table that has a name gets one more; a vector is copied; a new table
-- gets its first name. NULL is refused.
abbrev pub value_change : List ℕ → Value → Result NameChange Fault
value_change name (Numbered n) = Ok (Bind name (NumberedTable n))
value_change name (New t) = Ok (BindNew name t)
value_change name (Cells v) = Ok (Bind name (BoundVector v))
value_change name Null = Err (fault E19 name)

abbrev pub assigned : List ℕ → Given → Result Effect Fault
assigned name g = then_do (value_change name g.value) (λ c. Ok (changes_with (altering g c) g.warns))

-- what a value does, by itself or with a name
abbrev pub value_effect : Option (List ℕ) → State → Given → Result Effect Fault
value_effect None s g = bare s g
value_effect (Some name) s g = assigned name g

-- a statement whose expression is a value, with the index that it adds
abbrev pub value_step : Option (List ℕ) → Meaning → Scene → Result Effect Fault
value_step target m w = then_do (m.whole w) (λ g. value_effect target w.state (m.indexed w g))

-- a command does what it does; of anything else the value counts
abbrev pub step_of : Option (Option (List ℕ) → Scene → Result Effect Fault) → Option (List ℕ) → Meaning → Scene
    → Result Effect Fault
step_of None target m w = value_step target m w
step_of (Some does) target m w = does target w

-- a statement with a form that is not served yet is refused before anything else is looked at
abbrev pub step : Look → SessionState → Stmt → Result Effect Fault
step files s stmt =
    if not ((meaning stmt.expr).served false) then Err unbuilt
    else step_of (meaning stmt.expr).command stmt.target (meaning stmt.expr)
    (record { files = files; state = s.state; options = s.options })
