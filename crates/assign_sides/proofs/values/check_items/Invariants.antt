use Rattle.std.proofs.Common.{◌≡◌, drop}
use Rattle.assign_sides.specs.Seen.{items_seen}
use Rattle.expr_scope.specs.Scope.{env_of}
use Rattle.session_model.proofs.InOrder.{onto}
use Rattle.session_model.specs.Assigned.{check_item}
use Rattle.session_model.specs.Expression.{each}
use Rattle.assign_sides.proofs.values.check_items.Given as goal

abbrev pub invariant-loop-item : goal.invariant-loop-item
invariant-loop-item g l =
    each (check_item (env_of g.V.Vars.bound l.s)) (items_seen l.items)
    ≡ onto l.kinds.items (each (check_item (env_of g.V.Vars.bound l.s)) (items_seen (drop l.item-index l.items)))
