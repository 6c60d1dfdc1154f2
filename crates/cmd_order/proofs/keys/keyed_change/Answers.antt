use Rattle.stmt_change.specs.Places.{table_at}
use Rattle.cmd_order.proofs.KeyFacts.{moved_keyed, stands_keyed}
use Rattle.cmd_order.proofs.keys.keyed_change.Goals as goal

pub returns-then-is_sorted-clause-answer : goal.returns-then-is_sorted-clause-answer
returns-then-is_sorted-clause-answer g c =
    stands_keyed (table_at c.args.heap.now c.args.id) c.table_of-table.result.now c.frame.result.now c.args.key.items
    c.deref.result.now c.args.id.number c.table_of-table.ensures.table c.frame.ensures.frame c.deref.ensures.value
    c.frame.ensures.table c.requires.key (c.is_sorted.ensures.answer.0 c.if-is_sorted.true)

pub returns-in-Ok-clause-answer : goal.returns-in-Ok-clause-answer
returns-in-Ok-clause-answer g c =
    moved_keyed (table_at c.args.heap.now c.args.id) c.table_of-table.result.now c.in-Ok.table c.args.key.items
    c.deref-2.result.now c.args.id.number c.table_of-table.ensures.table c.deref-2.ensures.value c.in-Ok.ensures.plain
