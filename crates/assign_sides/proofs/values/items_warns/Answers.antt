use Rattle.std.proofs.Common.{◌∙◌, ap}
use Rattle.assign_sides.specs.Seen.{value_seen}
use Rattle.dt_base.specs.Warns.{both_warns}
use Rattle.expr_scope.proofs.NextOne.{warns_at}
use Rattle.session_model.specs.Assigned.{item_warns}
use Rattle.assign_sides.proofs.values.items_warns.Goals as goal

-- the warnings of one more value
pub loop-value-preserved : goal.loop-value-preserved
loop-value-preserved c =
    warns_at value_seen item_warns _ c.loop-value.all c.both-all.result c.args.values.now c.loop-value.value-index
    c.value-item.result c.loop-value.invariant c.loop-value-test.true c.value-item.is
    (c.both-all.ensures ∙ ap (both_warns c.loop-value.all) c.item_warns.ensures)
