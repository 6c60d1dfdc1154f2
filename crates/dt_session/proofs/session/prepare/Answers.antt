use Rattle.dt_session.proofs.session.prepare.Goals as goal

pub returns-in_err-effect-clause-same : goal.returns-in_err-effect-clause-same
returns-in_err-effect-clause-same g c = c.same_heaps.ensures.itself c.args.heap.now

pub returns-in_err-lines-clause-same : goal.returns-in_err-lines-clause-same
returns-in_err-lines-clause-same g c = c.same_heaps.ensures.itself c.args.heap.now
