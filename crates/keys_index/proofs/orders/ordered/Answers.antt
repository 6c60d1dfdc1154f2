use Rattle.std.proofs.Common.{◌∙◌}
use Rattle.dt_table.proofs.Tables.{no_columns}
use Rattle.na_vector.specs.Frame.{vectors_of}
use Rattle.row_order.specs.Columns.{sorting_of}
use Rattle.keys_index.proofs.Ordering.{order_all, plain_order_set, reordered_by}
use Rattle.keys_index.proofs.orders.ordered.Goals as goal

-- the order has all rows
pub reordered-requires-clause-rows : goal.reordered-requires-clause-rows
reordered-requires-clause-rows g c =
    order_all (sorting_of (vectors_of c.args.t.now.frame.columns) c.args.by.now) _ _
    (c.deref.ensures.value ∙ (rw c.frame.ensures.frame at c.in_ok-rows.ensures.ok))

-- and no key is asked of them
pub reordered-requires-clause-key : goal.reordered-requires-clause-key
reordered-requires-clause-key g c = no_columns _ c.new.result.items c.new.ensures.items

pub returns-clause-plain : goal.returns-clause-plain
returns-clause-plain g c =
    c.in_ok-reordered.ensures.plain
    ∙ plain_order_set c.args.t.now c.args.by.now c.new.result.items c.deref.result.now c.frame.ensures.table
    c.requires c.new.ensures.items (c.deref.ensures.value ∙ (rw c.frame.ensures.frame at c.in_ok-rows.ensures.ok))

pub returns-clause-ok : goal.returns-clause-ok
returns-clause-ok g c =
    reordered_by c.args.t.now c.in_ok-reordered.field-0 _ _ _ _
    (c.deref.ensures.value ∙ (rw c.frame.ensures.frame at c.in_ok-rows.ensures.ok)) c.new.ensures.items
    c.in_ok-reordered.ensures.ok
