-- What a heap ends as, where a `&mut` to one of its tables is given.
--   with_table_at h id w    the Id's place has w with the Id's number
--   LendsTable              once the borrow ends, the Id's place has the last table behind it
use Rattle.std.specs.Prelude.{Some, slice_set}
use Rattle.std.specs.Borrow.{Lends, MutBor, Fml}
use Rattle.dt_table.specs.Table.{TableSeen}
use Rattle.dt_table.specs.contracts.table.Table as table
use Rattle.table_heap.specs.declared.bound.Id.{Id}
use Rattle.table_heap.specs.Seen.{HeapSeen}
use Rattle.table_heap.specs.contracts.heap.Heap.{the_row}

-- one place has become w, with its number as before
abbrev pub with_table_at : HeapSeen → Id → TableSeen → HeapSeen
with_table_at h id w =
    record h {
      held = record h.held {
        slots = slice_set h.held.slots id.slot (Some (record { number = id.number; table = w }));
      };
    }

-- the heap ends with the last table behind r at the Id's place
abbrev pub LendsTable : MutBor HeapSeen → Id → MutBor TableSeen → Fml
LendsTable h id r = Lends the_row table.the_row h r (with_table_at h.now id)
