use Rattle.std.proofs.Common.{ap}
use Rattle.table_heap.specs.Names.{bounds_of}
use Rattle.table_heap.proofs.Heaps.{empty_heap, empty_state_is}
use Rattle.table_heap.proofs.heap.Heap.new.Goals as goal

pub invariant_of-result : goal.invariant_of-result
invariant_of-result c = empty_heap _ _ (ap bounds_of c.new.ensures.empty) c.new-2.ensures.empty

pub returns : goal.returns
returns c = empty_state_is _ _ (ap bounds_of c.new.ensures.empty) c.new-2.ensures.empty
