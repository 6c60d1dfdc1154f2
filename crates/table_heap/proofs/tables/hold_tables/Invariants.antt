use Rattle.table_heap.proofs.PlainTables.{HoldTablesTo}
use Rattle.table_heap.proofs.tables.hold_tables.Given as goal

-- the tables at the places before this one are sound
abbrev pub invariant-loop-slot : goal.invariant-loop-slot
invariant-loop-slot l = HoldTablesTo l.tables.slots l.slot
