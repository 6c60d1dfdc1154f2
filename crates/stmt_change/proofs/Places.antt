-- The table at the place of an Id is the one that a heap gives of it.
use Rattle.std.proofs.Common.{◌≡◌, ap}
use Rattle.dt_table.specs.Table.{TableSeen}
use Rattle.stmt_change.specs.Places.{table_at, table_in}
use Rattle.table_heap.specs.declared.bound.Id.{Id}
use Rattle.table_heap.specs.Seen.{HeapSeen, IsTableAt}

pub at_place : (h : HeapSeen) (id : Id) (t : TableSeen) → IsTableAt h id t → table_at h id ≡ t
at_place h id t p = ap table_in p
