use Rattle.std.proofs.Common.{◌<◌, length, rules}
use Rattle.std.proofs.lemmas.List.Edits.{map_over_more}
use Rattle.dt_table.specs.Change.{stays_before, parts_seen}
use Rattle.dt_table.proofs.orders.move_columns.Goals as goal

-- one more column is moved
pub loop-k-preserved : goal.loop-k-preserved
loop-k-preserved c =
    let within : c.loop-k.k < length c.args.cols.now.items = search rules in
    rw c.stays_before.ensures (map_over_more (stays_before (parts_seen c.args.parts.now)) c.args.cols.now.items
    c.loop-k.cols.items c.loop-k.k c.index.result.now within c.loop-k.invariant c.index.ensures)
