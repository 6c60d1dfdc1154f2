use Rattle.std.proofs.Common.{◌≡◌, drop, map}
use Rattle.assign_sides.specs.Seen.{items_seen, value_seen}
use Rattle.expr_scope.specs.Scope.{env_of}
use Rattle.session_model.proofs.InOrder.{onto}
use Rattle.session_model.specs.Assigned.{value_item}
use Rattle.session_model.specs.Expression.{each}
use Rattle.assign_sides.proofs.values.value_items.Given as goal

abbrev pub invariant-loop-item : goal.invariant-loop-item
invariant-loop-item g l =
    each (value_item (env_of g.V.Vars.bound l.s)) (items_seen l.items)
    ≡ onto (map value_seen l.values.items) (each (value_item (env_of g.V.Vars.bound l.s))
    (items_seen (drop l.item-index l.items)))
