use Rattle.table_heap.proofs.Changed.{same_heap, same_itself, same_live, same_more, same_state}
use Rattle.table_heap.proofs.laws.same_heaps.Goals as goal

pub returns : goal.returns
returns c = record {
  itself = same_itself;
  more = same_more;
  state = same_state;
  live = same_live;
  heap = same_heap;
}
