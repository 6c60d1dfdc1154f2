use Rattle.dt_table.proofs.Tables.{IsTable-roomier}
use Rattle.dt_table.proofs.table.Table.reserve_change.Goals as goal

-- there is more room, and all else is as it was
pub invariant_of-self-2 : goal.invariant_of-self-2
invariant_of-self-2 c = IsTable-roomier _ c.reserve.new.self.items c.reserve_parts.new.frame _ _ c.self.invariant
    c.in_ok-reserve.ensures.items c.reserve_parts.ensures.more
