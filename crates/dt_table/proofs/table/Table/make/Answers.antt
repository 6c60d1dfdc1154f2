use Rattle.std.proofs.Common.{◌≡◌, ◌*◌, ◌≤◌, None, length, arith, rules}
use Rattle.dt_model.specs.Table.{first_repeated}
use Rattle.dt_table.proofs.Tables.{IsTable-new}
use Rattle.dt_table.proofs.table.Table.make.Goals as goal

-- no name stood twice, and all quantities were within their limits
pub invariant_of-result : goal.invariant_of-result
invariant_of-result c =
    let once : first_repeated c.args.names.items ≡ None = search rules in
    let cells : c.args.frame.rows * length c.args.frame.columns ≤ 67108864 = search rules in
    IsTable-new _ _ _ _ _ _ _ c.rows.ensures.frame c.requires.count c.requires.filled once cells (omega arith)
    c.new.ensures.items c.new-2.ensures.items
