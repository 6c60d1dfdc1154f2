-- What contracts see of the sides of an assignment.
--   arg_item a         an argument, as an item
--   item_seen o        an argument that is lent, or none, as an item or none
--   side_seen s        a right side
--   values_seen v      the values of a right side
--   assigned_seen t a  the table t once it is changed, and the warnings
use Rattle.std.specs.Borrow.{Bor}
use Rattle.std.specs.Prelude.{List, map, Option, option_map}
use Rattle.dt_table.specs.Plain.{plain_changed}
use Rattle.dt_table.specs.Table.{TableSeen}
use Rattle.dt_tree.specs.declared.tree.Arg.{Arg}
use Rattle.assign_model.specs.Assign as model
use Rattle.assign_sides.specs.declared.assigned.Assigned.{Assigned}
use Rattle.assign_sides.specs.declared.side.Side.{Side}
use Rattle.assign_sides.specs.declared.side.Side.TheVariants.{ForAll, ForEach, Deletes}
use Rattle.assign_sides.specs.declared.values.Values.{Values}
use Rattle.assign_sides.specs.declared.values.Values.TheVariants.{OneForAll, OneForEach, NoValue}
use Rattle.session_model.specs.Assigned as side
use Rattle.session_model.specs.Items.{bare_item, item_of}
use Rattle.session_model.specs.Meaning.{arg_meaning, meaning}
use Rattle.session_model.specs.Written.{Item}
use Rattle.valued.specs.Valued.{valued_of}
use Rattle.valued.specs.declared.column.Valued.{Valued}
use Rattle.vector_model.specs.Functions as vector

-- an argument, as an item
abbrev pub arg_item : Arg → Item
arg_item a = item_of (arg_meaning a)

abbrev pub item_seen : Option (Bor Arg) → Option Item
item_seen o = option_map (λ a. arg_item a.now) o

abbrev pub items_seen : List (Option (Bor Arg)) → List (Option Item)
items_seen = map item_seen

-- a right side
abbrev pub side_seen : Side → side.RightSide
side_seen (ForAll e) = side.ForAll (bare_item (meaning e.now))
side_seen (ForEach items) = side.ForEach (items_seen items.items)
side_seen Deletes = side.Deletes

-- the values of a right side
abbrev pub value_seen : Option Valued → Option vector.Valued
value_seen o = option_map valued_of o

abbrev pub values_seen : Values → side.RightValues
values_seen (OneForAll v) = side.OneForAll (valued_of v)
values_seen (OneForEach vs) = side.OneForEach (map value_seen vs.items)
values_seen NoValue = side.NoValue

-- the table once it is changed, and the warnings
abbrev pub assigned_seen : TableSeen → Assigned → model.Assigned
assigned_seen t a = record { table = plain_changed t a.change; warns = a.warns }
