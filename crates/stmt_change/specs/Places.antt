-- The table that stands at the place of an Id.
--   table_at h id    that table; where none stands there, one without columns
use Rattle.std.specs.Prelude.{[], Option, None, Some}
use Rattle.dt_table.specs.Table.{TableSeen}
use Rattle.table_heap.specs.declared.bound.Id.{Id}
use Rattle.table_heap.specs.declared.bound.Numbered.{Numbered}
use Rattle.table_heap.specs.Seen.{HeapSeen, slot_at}

-- no columns, no rows and no slots
abbrev pub without_columns : TableSeen
without_columns = record {
  names = [];
  frame = record { columns = []; rows = 0; spare = 0 };
  key = [];
  indices = [];
  slots = 0;
  spare = 0;
  index_room = 0;
}

abbrev pub table_in : Option Numbered → TableSeen
table_in None = without_columns
table_in (Some x) = x.table

abbrev pub table_at : HeapSeen → Id → TableSeen
table_at h id = table_in (slot_at h.held.slots id.slot)
