-- What a statement does, as a whole, before any of it is done.
--   NameChange          the change of one name
--   Change              the change of a table, of a name, and of the options
--   Effect              what goes to the output, the file that is written, the warnings, the change
--   changed s c         the session after a change: the table first, then the name, then the options
--   does_nothing, prints, writes, changes_name, changes_with    effects that do one thing
use Rattle.std.specs.Prelude.{ℕ, List, [], Option, None, Some}
use Rattle.dt_base.specs.declared.warns.Warns.{Warns}
use Rattle.dt_base.specs.Warns.{no_warns}
use Rattle.dt_model.specs.Table.{PlainTable}
use Rattle.dt_model.specs.State.{State, Bound, bound_to, bound_new, removed, with_table}
use Rattle.func_table.specs.declared.options.Options.{Options}
use Rattle.session_model.specs.Session.{SessionState}

-- A name is bound to a new table, or to a table or vector that is there; or it is removed.
pub data NameChange : Type 0 where
  Nothing : NameChange
  BindNew : List ℕ → PlainTable → NameChange
  Bind : List ℕ → Bound → NameChange
  Remove : List ℕ → NameChange

-- The table of a number becomes another, under all its names; then a name changes; then the options do.
-- Each may stay as it is.
pub record Change : Type 0 where
  pub table : Option (ℕ × PlainTable)
  pub name : NameChange
  pub options : Option Options

-- the text for the output, a file with its bytes, the warnings, and the change
pub record Effect : Type 0 where
  pub text : List ℕ
  pub file : Option (List ℕ × List ℕ)
  pub warns : Warns
  pub change : Change

-- ---- The session after a change

abbrev pub tabled : State → Option (ℕ × PlainTable) → State
tabled s None = s
tabled s (Some x) = with_table s x.0 x.1

abbrev pub named : State → NameChange → State
named s Nothing = s
named s (BindNew name t) = bound_new s name t
named s (Bind name b) = bound_to s name b
named s (Remove name) = removed s name

abbrev pub optioned : Options → Option Options → Options
optioned old None = old
optioned old (Some new) = new

abbrev pub changed : SessionState → Change → SessionState
changed s c = record { state = named (tabled s.state c.table) c.name; options = optioned s.options c.options }

-- ---- Changes and effects that do one thing

abbrev pub no_change : Change
no_change = record { table = None; name = Nothing; options = None }

-- a name changes
abbrev pub names_change : NameChange → Change
names_change c = record { table = None; name = c; options = None }

abbrev pub does_nothing : Effect
does_nothing = record { text = []; file = None; warns = no_warns; change = no_change }

abbrev pub prints : List ℕ → Warns → Effect
prints text warns = record { text = text; file = None; warns = warns; change = no_change }

abbrev pub writes : List ℕ → List ℕ → Warns → Effect
writes name bytes warns = record { text = []; file = Some (name, bytes); warns = warns; change = no_change }

abbrev pub changes_with : Change → Warns → Effect
changes_with c warns = record { text = []; file = None; warns = warns; change = c }

abbrev pub changes_name : NameChange → Effect
changes_name c = changes_with (names_change c) no_warns
