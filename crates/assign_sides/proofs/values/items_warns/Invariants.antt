use Rattle.std.proofs.Common.{◌≡◌, drop, map}
use Rattle.assign_sides.specs.Seen.{value_seen}
use Rattle.dt_base.specs.Warns.{both_warns}
use Rattle.session_model.specs.Assigned.{item_warns}
use Rattle.session_model.specs.Expression.{all_warns}
use Rattle.assign_sides.proofs.values.items_warns.Given as goal

abbrev pub invariant-loop-value : goal.invariant-loop-value
invariant-loop-value l =
    all_warns (map item_warns (map value_seen l.values))
    ≡ both_warns l.all (all_warns (map item_warns (map value_seen (drop l.value-index l.values))))
