-- What contracts see of a file that is read.
--   file_given p     its table with its warnings, as a value that alters nothing
use Rattle.dt_base.specs.declared.warns.Warns.{Warns}
use Rattle.dt_table.specs.Plain.{plain}
use Rattle.dt_table.specs.Table.{TableSeen}
use Rattle.session_model.specs.Value.{Given, New, plain_given}

abbrev pub file_given : TableSeen × Warns → Given
file_given p = plain_given (New (plain p.0)) p.1
