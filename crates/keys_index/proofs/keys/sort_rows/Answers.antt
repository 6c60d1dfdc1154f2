use Rattle.std.proofs.Common.{◌∙◌, refl}
use Rattle.na_vector.specs.Frame.{vectors_of}
use Rattle.order_model.specs.Order.{rising}
use Rattle.keys_index.proofs.Ordering.{keyed_sorted, order_all, plain_key_set, reordered_by}
use Rattle.keys_index.proofs.keys.sort_rows.Goals as goal

-- the order has all rows, and they have the key in it
pub reorder-requires-clause-rows : goal.reorder-requires-clause-rows
reorder-requires-clause-rows g c =
    order_all (rising (vectors_of c.args.t.now.frame.columns) c.args.key.items) _ _
    (c.deref-2.ensures.value ∙ (rw (c.frame.ensures.frame, c.deref.ensures.value) at c.in_ok-rows.ensures.ok))

pub reorder-requires-clause-order : goal.reorder-requires-clause-order
reorder-requires-clause-order g c =
    keyed_sorted _ c.args.key.items c.args.key.items _ _ refl
    (c.deref-2.ensures.value ∙ (rw (c.frame.ensures.frame, c.deref.ensures.value) at c.in_ok-rows.ensures.ok))

pub returns-clause-plain : goal.returns-clause-plain
returns-clause-plain g c =
    c.in_ok-reorder.ensures.plain
    ∙ plain_key_set c.args.t.now c.args.key.items c.args.key.items c.deref-2.result.now c.frame.ensures.table
    c.requires.key refl
    (c.deref-2.ensures.value ∙ (rw (c.frame.ensures.frame, c.deref.ensures.value) at c.in_ok-rows.ensures.ok))

pub returns-clause-ok : goal.returns-clause-ok
returns-clause-ok g c =
    reordered_by c.args.t.now c.reorder.new.self _ _ _ _
    (c.deref-2.ensures.value ∙ (rw (c.frame.ensures.frame, c.deref.ensures.value) at c.in_ok-rows.ensures.ok)) refl
    c.in_ok-reorder.ensures.ok
