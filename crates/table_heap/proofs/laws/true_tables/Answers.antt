use Rattle.table_heap.proofs.laws.true_tables.Goals as goal

pub returns : goal.returns
returns c = c.hold_tables.ensures
