-- What `prepare` makes room for, and `finish` relies on.
--   HasRoomIn h c    the table that changes has room for its change
use Rattle.stmt_change.specs.declared.change.TableChange.{TableChange}
use Rattle.stmt_change.specs.declared.change.TableChange.TheVariants.{Altered}
use Rattle.table_heap.specs.Altered.{RoomAt}
use Rattle.table_heap.specs.Seen.{HeapSeen}

-- the table that changes has room for its index and its change; no other change wants any
abbrev pub HasRoomIn : HeapSeen → TableChange → Type 0
HasRoomIn h (Altered a) = RoomAt h a.id a.index a.parts
HasRoomIn h _ = Unit {0}
