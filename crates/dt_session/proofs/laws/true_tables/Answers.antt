use Rattle.std.proofs.Common.{subst}
use Rattle.table_heap.specs.Seen.{HeapSeen}
use Rattle.table_heap.specs.Tables.{HoldTables}
use Rattle.dt_session.proofs.laws.true_tables.Goals as goal

pub returns : goal.returns
returns c = subst (λ (h : HeapSeen). HoldTables h.held.slots) c.heap.ensures c.true_tables.ensures
