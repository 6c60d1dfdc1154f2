use Rattle.std.proofs.Common.{arith, ◌∙◌}
use Rattle.dt_table.proofs.Tables.{IsTable-copy}
use Rattle.dt_table.proofs.table.Table.copy.Goals as goal

-- each part is as the table's
pub invariant_of-result : goal.invariant_of-result
invariant_of-result g c =
    IsTable-copy _ _ _ _ _ _ _ _ c.self.invariant c.width-own_slots.ensures.frame
    (c.in_ok-names.ensures ∙ c.deref.ensures.value)
    c.in_ok-frame.ensures.ok
    c.in_ok-frame.ensures.rows
    (c.in_ok-key.ensures.items ∙ c.deref-2.ensures.value)
    (c.in_ok-indices.ensures ∙ c.deref-3.ensures.value)
    (omega arith)
