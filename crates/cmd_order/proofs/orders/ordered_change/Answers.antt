use Rattle.stmt_change.specs.Places.{table_at}
use Rattle.cmd_order.proofs.KeyFacts.{moved_ordered, within_named}
use Rattle.cmd_order.proofs.orders.ordered_change.Goals as goal

pub ordered-requires : goal.ordered-requires
ordered-requires g c =
    within_named (table_at c.args.heap.now c.args.id) c.table_of.result.now c.args.by.now c.table_of.ensures.table
    c.requires.columns

pub returns-in-Ok-clause-answer : goal.returns-in-Ok-clause-answer
returns-in-Ok-clause-answer g c =
    moved_ordered (table_at c.args.heap.now c.args.id) c.table_of.result.now c.in-Ok.table c.args.by.now
    c.args.id.number c.table_of.ensures.table c.requires.columns.na_first c.in-Ok.ensures.plain
