use Rattle.dt_table.proofs.Reordering.{IsTable-unkeyed}
use Rattle.dt_table.proofs.table.Table.drop_key.Goals as goal

-- the key alone is another
pub invariant_of-self : goal.invariant_of-self
invariant_of-self c = IsTable-unkeyed _ c.clear.new.self.items c.self.invariant c.clear.ensures.items
