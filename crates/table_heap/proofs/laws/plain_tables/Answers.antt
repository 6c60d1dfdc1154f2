use Rattle.table_heap.proofs.PlainTables.{plain_tables}
use Rattle.table_heap.proofs.laws.plain_tables.Goals as goal

pub returns : goal.returns
returns c = plain_tables c.args.heap.now.held c.hold_tables.ensures
