-- The steps of `set`, over a table as contracts see it.
--   rows_of o              the rows that are named, if rows are given
--   checked_right s m      a right side, once its types have been looked at
--   assigned_in t ..       what is assigned in the columns that are named
--   set_in t ..            what is set in a table, once all is valued
--   set_effect_of h id w a the effect that a table is assigned to
use Rattle.std.specs.Global.{Vec}
use Rattle.std.specs.Prelude.{ℕ, Option, Result, Ok, option_map}
use Rattle.assign_model.specs.Assign as assign
use Rattle.assign_model.specs.Targets.{Rows}
use Rattle.assign_sides.specs.declared.assigned.Assigned.{Assigned}
use Rattle.dt_base.specs.declared.fault.Fault.{Fault}
use Rattle.dt_base.specs.declared.warns.Warns.{Warns}
use Rattle.dt_base.specs.Warns.{both_warns}
use Rattle.dt_model.specs.Vector.{Vector}
use Rattle.dt_table.specs.Plain.{plain, plain_changed}
use Rattle.dt_table.specs.Table.{TableSeen}
use Rattle.expr_model.specs.Surroundings.{Env}
use Rattle.session_model.specs.Assigned.{RightSide, RightValues, assigned_by, check_right, right_side}
use Rattle.session_model.specs.Effect as model
use Rattle.session_model.specs.Meanings.{Meaning}
use Rattle.session_model.specs.Set.{names_named, rows_wanted}
use Rattle.session_model.specs.NamedTable.{table_change}
use Rattle.stmt_change.specs.Places.{table_at}
use Rattle.table_heap.specs.declared.bound.Id.{Id}
use Rattle.table_heap.specs.Seen.{HeapSeen}
use Rattle.vector_model.specs.Functions.{Valued}
use Rattle.vector_model.specs.Then.{then_do}

-- the rows that are named
abbrev pub rows_of : Option (Vec ℕ) → Rows
rows_of o = option_map (λ v. v.items) o

-- the right side as it is written, and then its types
abbrev pub checked_right : Env → Meaning → Result RightSide Fault
checked_right s m = then_do (right_side m) (λ side. then_do (check_right side s) (λ _. Ok side))

-- the columns that are named, and then the assignment
abbrev pub assigned_in : TableSeen → Rows → Vector → RightValues → Result assign.Assigned Fault
assigned_in t rows columns v = then_do (names_named t.names columns) (λ names. assigned_by (plain t) rows names v)

-- the rows come before the columns
abbrev pub set_in : TableSeen → Option Valued → Vector → RightValues → Result assign.Assigned Fault
set_in t rows columns v = then_do (rows_wanted t.frame.rows rows) (λ chosen. assigned_in t chosen columns v)

-- the table of the Id becomes the one that is assigned, with these warnings before its own
abbrev pub set_effect_of : HeapSeen → Id → Warns → Assigned → model.Effect
set_effect_of h id warns a = model.changes_with (table_change id.number (plain_changed (table_at h id) a.change))
    (both_warns warns a.warns)
