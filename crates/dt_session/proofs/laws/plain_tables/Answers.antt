use Rattle.std.proofs.Common.{subst}
use Rattle.table_heap.specs.Seen.{HeapSeen}
use Rattle.table_heap.specs.State.{state_of}
use Rattle.table_heap.specs.Tables.{HasPlainTables}
use Rattle.dt_session.proofs.laws.plain_tables.Goals as goal

pub returns : goal.returns
returns c = subst (λ (h : HeapSeen). HasPlainTables (state_of h)) c.heap.ensures c.plain_tables.ensures
