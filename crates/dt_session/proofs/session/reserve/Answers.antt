use Rattle.dt_session.proofs.Changes.{change_same, fits_same, held_same}
use Rattle.dt_session.proofs.session.reserve.Goals as goal

pub returns-in_err-reserve-clause-same : goal.returns-in_err-reserve-clause-same
returns-in_err-reserve-clause-same c = held_same c.same_heaps.ensures _ _ c.reserve.ensures.same

pub returns-clause-same : goal.returns-clause-same
returns-clause-same c =
    let law = c.same_heaps.ensures in
    law.more _ _ _ (held_same law _ _ c.reserve.ensures.same) c.reserve_table.ensures.same

pub returns-clause-fits : goal.returns-clause-fits
returns-clause-fits c =
    let law = c.same_heaps.ensures in
    fits_same law _ _ c.args.change.now
    (law.more _ _ _ (held_same law _ _ c.reserve.ensures.same) c.reserve_table.ensures.same) c.requires

pub returns-clause-change : goal.returns-clause-change
returns-clause-change c =
    let law = c.same_heaps.ensures in
    change_same _ _ c.args.change.now
    (law.more _ _ _ (held_same law _ _ c.reserve.ensures.same) c.reserve_table.ensures.same) c.requires

pub returns-clause-state : goal.returns-clause-state
returns-clause-state c =
    let law = c.same_heaps.ensures in
    law.state c.args.heap.now c.reserve_table.new.heap
    (law.more _ _ _ (held_same law _ _ c.reserve.ensures.same) c.reserve_table.ensures.same)
