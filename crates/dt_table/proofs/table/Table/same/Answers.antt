use Rattle.std.proofs.Common.{arith, ◌∙◌}
use Rattle.dt_table.proofs.Tables.{IsTable-copy, same_width}
use Rattle.dt_table.proofs.table.Table.same.Goals as goal

-- each part is as the table's
pub invariant_of-result : goal.invariant_of-result
invariant_of-result g c =
    IsTable-copy _ _ _ _ _ _ _ _ c.self.invariant c.width.ensures.frame
    (c.in_ok-names.ensures ∙ c.deref.ensures.value)
    c.in_ok-frame.ensures.ok
    c.in_ok-frame.ensures.rows
    (c.in_ok-own_key.ensures.items ∙ c.deref-2.ensures.value)
    (c.in_ok-indices.ensures ∙ c.deref-3.ensures.value)
    (let wide = same_width c.self.inside.frame.columns c.in_ok-frame.frame.columns c.in_ok-frame.ensures.ok in
    let room = c.self.invariant.width in let named = c.self.invariant.named in omega arith)
