-- A table as contracts see it has the rows and the names of its plain reading.
use Rattle.std.proofs.Common.{◌≡◌, Option, sym}
use Rattle.dt_model.specs.Vector.{Vector}
use Rattle.dt_table.proofs.Plain.{plain_names, plain_rows}
use Rattle.dt_table.specs.Plain.{plain}
use Rattle.dt_table.specs.Table.{IsTable, TableSeen}
use Rattle.session_model.specs.Assigned.{RightValues, assigned_by}
use Rattle.session_model.specs.Set.{names_named, rows_wanted, set_table}
use Rattle.vector_model.specs.Functions.{Valued}
use Rattle.vector_model.specs.Then.{then_do}
use Rattle.cmd_assign.specs.Sets.{set_in}

pub set_alike : (t : TableSeen) (rows : Option Valued) (columns : Vector) (v : RightValues) → IsTable t
    → set_in t rows columns v ≡ set_table (plain t) rows columns v
set_alike t rows columns v h =
    λ j. then_do (rows_wanted (sym (plain_rows t) j) rows) (λ chosen.
    then_do (names_named (sym (plain_names t h) j) columns) (λ names. assigned_by (plain t) chosen names v))
