-- What contracts see of the call of `order` as an i.
--   arg_item a            an argument, as an item
--   items_seen o          arguments that are lent, or none, as items or none
--   arg_form a            the form of an argument
--   named_seen n          a column's name, and whether its cells fall
--   column_seen names s   the same of a column that is found, where the table has these names
use Rattle.std.specs.Borrow.{Bor}
use Rattle.std.specs.Prelude.{ℕ, List, map, Option, option_map}
use Rattle.bracket_rows.specs.declared.ordered.Named.{Named}
use Rattle.dt_model.specs.Table.{name_at}
use Rattle.dt_tree.specs.declared.tree.Arg.{Arg}
use Rattle.row_order.specs.declared.ordering.SortCol.{SortCol}
use Rattle.session_model.specs.Form.{Form}
use Rattle.session_model.specs.Items.{item_of}
use Rattle.session_model.specs.Meaning.{arg_meaning, meaning}
use Rattle.session_model.specs.OrderColumns.{OrderColumn}
use Rattle.session_model.specs.Written.{Item}

-- an argument, as an item
abbrev pub arg_item : Arg → Item
arg_item a = item_of (arg_meaning a)

-- arguments that are lent
abbrev pub items_seen : Option (Bor (List Arg)) → Option (List Item)
items_seen o = option_map (λ args. map arg_item args.now) o

-- the form of an argument
abbrev pub arg_form : Arg → Form
arg_form a = (meaning a.value).form

-- a column's name, and whether its cells fall
abbrev pub named_seen : Named → OrderColumn
named_seen n = record { name = n.name.now; down = n.down }

-- the same of a column that is found
abbrev pub column_seen : List (List ℕ) → SortCol → OrderColumn
column_seen names s = record { name = name_at names s.col; down = s.down }
