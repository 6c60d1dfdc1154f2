use Rattle.keys_index.proofs.InPlace.{plain_in_place, set_in_place}
use Rattle.keys_index.proofs.keys.set_owned_key.Goals as goal

-- the rows already stand in the order of the key
pub returns-then-is_sorted-clause-plain : goal.returns-then-is_sorted-clause-plain
returns-then-is_sorted-clause-plain g c =
    plain_in_place c.args.t.now c.record_key.new.self c.drop_indices.new.self c.args.key.items c.frame.ensures.table
    c.requires.key
    (rw (c.frame.ensures.frame, c.deref.ensures.value) at c.is_sorted.ensures.answer.0 c.if-is_sorted.true)
    c.record_key.ensures c.drop_indices.ensures

pub returns-then-is_sorted-clause-ok : goal.returns-then-is_sorted-clause-ok
returns-then-is_sorted-clause-ok g c =
    set_in_place c.args.t.now c.record_key.new.self c.drop_indices.new.self c.args.key.items c.frame.ensures.table
    (rw (c.frame.ensures.frame, c.deref.ensures.value) at c.is_sorted.ensures.answer.0 c.if-is_sorted.true)
    c.record_key.ensures c.drop_indices.ensures
