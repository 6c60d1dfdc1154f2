use Rattle.std.proofs.Common.{subst}
use Rattle.table_heap.specs.Seen.{HeapSeen}
use Rattle.table_heap.specs.Tables.{HoldTables}
use Rattle.table_heap.proofs.heap.Heap.hold_tables.Goals as goal

pub returns : goal.returns
returns c = subst (λ (h : HeapSeen). HoldTables h.held.slots) c.self.view_is c.hold_tables.ensures
