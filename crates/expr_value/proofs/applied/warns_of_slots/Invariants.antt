use Rattle.std.proofs.Common.{◌≡◌, map, drop}
use Rattle.dt_base.specs.Warns.{both_warns}
use Rattle.expr_scope.specs.Slots.{slot_of}
use Rattle.session_model.specs.Expression.{all_warns, slot_warns}
use Rattle.expr_value.proofs.applied.warns_of_slots.Given as goal

abbrev pub invariant-loop-slot : goal.invariant-loop-slot
invariant-loop-slot l =
    all_warns (map slot_warns (map slot_of l.given))
    ≡ both_warns l.all (all_warns (map slot_warns (map slot_of (drop l.slot-index l.given))))
