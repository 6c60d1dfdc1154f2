use Rattle.table_heap.proofs.Changed.{put_live, put_same}
use Rattle.table_heap.proofs.heap.Heap.reserve_change.Goals as goal

pub returns-clause-same : goal.returns-clause-same
returns-clause-same c =
    put_same c.args.self.now c.args.id c.table_mut-table.result.now c.reserve.new.table
    c.table_mut-table.ensures.place c.reserve.ensures.same

pub returns-clause-live : goal.returns-clause-live
returns-clause-live c = put_live c.args.self.now c.args.id c.reserve.new.table c.requires.at
