-- What a bracket without j gives, before its warnings.
--   found_table r      the rows that were found as a new table
--   IsOfFound t f u    u has the names of the table t, and the rows that were found of it
use Rattle.std.specs.Prelude.{◌≡◌, Result, length}
use Rattle.bracket_rows.specs.Found.{found_of}
use Rattle.bracket_rows.specs.declared.found.Found as code
use Rattle.dt_base.specs.declared.fault.Fault.{Fault}
use Rattle.dt_model.specs.Table.{PlainTable}
use Rattle.dt_table.specs.Table.{TableSeen}
use Rattle.na_vector.specs.Frame.{vectors_of}
use Rattle.session_model.specs.Found.{Found}
use Rattle.session_model.specs.Value.{new_table}

-- the rows that were found as a new table
abbrev pub found_table : Found → Result PlainTable Fault
found_table r = new_table r.columns.names (length r.places) r.columns.vectors

-- the names of the table, and the columns and the number of the rows that were found
pub record IsOfFound (t : TableSeen) (f : code.Found) (u : TableSeen) : Type 0 where
  pub names : u.names ≡ t.names
  pub vectors : vectors_of u.frame.columns ≡ (found_of t f).columns.vectors
  pub rows : u.frame.rows ≡ length (found_of t f).places
