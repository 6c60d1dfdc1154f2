use Rattle.std.proofs.Common.{ap, ◌∙◌}
use Rattle.dt_base.specs.Warns.{both_warns}
use Rattle.session_model.specs.Expression.{slot_warns}
use Rattle.expr_scope.proofs.NextOne.{warns_at}
use Rattle.expr_value.proofs.applied.warns_of_slots.Goals as goal
use Rattle.expr_scope.specs.Slots.{slot_of}

pub loop-slot-preserved : goal.loop-slot-preserved
loop-slot-preserved c =
    warns_at slot_of slot_warns _ c.loop-slot.all c.both-all.result c.args.given.now c.loop-slot.slot-index
    c.slot-item.result
    c.loop-slot.invariant c.loop-slot-test.true c.slot-item.is
    (c.both-all.ensures ∙ ap (both_warns c.loop-slot.all) c.warns_of.ensures)
