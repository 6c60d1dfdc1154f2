-- What contracts see of what is told of a table's orders.
--   texts_in texts     texts, as cells
--   indices_named t    the indices of a table, each as one text
--   told_seen o        a vector of texts, or NULL
use Rattle.std.specs.Prelude.{ℕ, List, map, Option, None, Some}
use Rattle.dt_base.specs.declared.cell.Cell.{Cell}
use Rattle.dt_base.specs.Warns.{no_warns}
use Rattle.dt_table.specs.Plain.{plain}
use Rattle.dt_table.specs.Table.{TableSeen}
use Rattle.na_vector.specs.Column.{Seen}
use Rattle.na_vector.specs.Words.{text_cell}
use Rattle.session_model.specs.Indices.{joined}
use Rattle.session_model.specs.Value.{Cells, Given, Null, plain_given}

abbrev pub texts_in : List (Option (List ℕ)) → List Cell
texts_in texts = map text_cell texts

abbrev pub indices_named : TableSeen → List (List ℕ)
indices_named t = map joined (plain t).indices

abbrev pub told_seen : Option Seen → Given
told_seen None = plain_given Null no_warns
told_seen (Some c) = plain_given (Cells c.vector) no_warns
