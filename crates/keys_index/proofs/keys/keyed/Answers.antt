use Rattle.std.proofs.Common.{◌∙◌}
use Rattle.na_vector.specs.Frame.{vectors_of}
use Rattle.order_model.specs.Order.{rising}
use Rattle.keys_index.proofs.Ordering.{keyed_sorted, order_all, plain_key_set, reordered_by}
use Rattle.keys_index.proofs.keys.keyed.Goals as goal

-- the order has all rows, and they have the key in it
pub reordered-requires-clause-rows : goal.reordered-requires-clause-rows
reordered-requires-clause-rows g c =
    order_all (rising (vectors_of c.args.t.now.frame.columns) c.args.cols.now) _ _
    (c.deref.ensures.value ∙ (rw c.frame.ensures.frame at c.in_ok-rows.ensures.ok))

pub reordered-requires-clause-order : goal.reordered-requires-clause-order
reordered-requires-clause-order g c =
    keyed_sorted _ c.args.cols.now c.in_ok-key.key.items _ _ c.in_ok-key.ensures.items
    (c.deref.ensures.value ∙ (rw c.frame.ensures.frame at c.in_ok-rows.ensures.ok))

pub returns-clause-plain : goal.returns-clause-plain
returns-clause-plain g c =
    c.in_ok-reordered.ensures.plain
    ∙ plain_key_set c.args.t.now c.args.cols.now c.in_ok-key.key.items c.deref.result.now c.frame.ensures.table
    c.requires.cols c.in_ok-key.ensures.items
    (c.deref.ensures.value ∙ (rw c.frame.ensures.frame at c.in_ok-rows.ensures.ok))

pub returns-clause-ok : goal.returns-clause-ok
returns-clause-ok g c =
    reordered_by c.args.t.now c.in_ok-reordered.field-0 _ _ _ _
    (c.deref.ensures.value ∙ (rw c.frame.ensures.frame at c.in_ok-rows.ensures.ok)) c.in_ok-key.ensures.items
    c.in_ok-reordered.ensures.ok
