-- What contracts see of the columns that a command is given.
--   forms_behind left args   the arguments without a name, as written, but the first `left` of them
--   named_seen n          a name with its direction
--   column_seen names s   a column of a table by its name, where names are those of its columns
--   places_of by          the places of columns
--   AreColumns width by   columns of so many, none of them twice, in which NA stands first
use Rattle.std.specs.Prelude.{◌≡◌, ℕ, false, is_none, List, map, drop, All}
use Rattle.std.specs.List.{filter}
use Rattle.dt_model.specs.Table.{name_at}
use Rattle.dt_table.specs.Table.{IsColumnList}
use Rattle.row_order.specs.declared.ordering.SortCol.{SortCol}
use Rattle.session_model.specs.Form.{Form}
use Rattle.session_model.specs.Meanings.{ArgMeaning}
use Rattle.session_model.specs.OrderColumns.{OrderColumn}
use Rattle.cmd_order.specs.declared.columns.Named.{Named}

-- the arguments without a name, as written, behind the first of them
abbrev pub forms_behind : ℕ → List ArgMeaning → List Form
forms_behind left args = map (λ a. a.means.form) (drop left (filter (λ a. is_none a.name) args))

-- a name, and whether cells fall
abbrev pub named_seen : Named → OrderColumn
named_seen n = record { name = n.name.now; down = n.down }

-- the name of the column at a place, and whether its cells fall
abbrev pub column_seen : List (List ℕ) → SortCol → OrderColumn
column_seen names s = record { name = name_at names s.col; down = s.down }

-- their places alone
abbrev pub places_of : List SortCol → List ℕ
places_of by = map (λ s. s.col) by

-- distinct and in range, and NA stands first in each
pub record AreColumns (width : ℕ) (by : List SortCol) : Type 0 where
  pub places : IsColumnList width (places_of by)
  pub na_first : All (λ s. s.na_last ≡ false) by
