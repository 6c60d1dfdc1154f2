use Rattle.dt_session.proofs.session.reserve_table.Goals as goal

pub returns-in-Nothing-clause-same : goal.returns-in-Nothing-clause-same
returns-in-Nothing-clause-same c = c.same_heaps.ensures.itself c.args.heap.now

pub returns-in-Nothing-2-clause-same : goal.returns-in-Nothing-2-clause-same
returns-in-Nothing-2-clause-same c = c.same_heaps.ensures.itself c.args.heap.now
