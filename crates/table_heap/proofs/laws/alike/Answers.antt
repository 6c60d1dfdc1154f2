use Rattle.table_heap.proofs.Alike.{alike_state}
use Rattle.table_heap.proofs.laws.alike.Goals as goal

pub returns : goal.returns
returns c = alike_state c.args.heap.now c.live-count.ensures.heap
