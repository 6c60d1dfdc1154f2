use Rattle.std.proofs.Common.{◌≡◌, map, take}
use Rattle.assign_sides.specs.Seen.{arg_item, items_seen}
use Rattle.session_model.specs.Assigned.{valued_item}
use Rattle.assign_sides.proofs.side.valued_items.Given as goal

abbrev pub invariant-loop-arg : goal.invariant-loop-arg
invariant-loop-arg l = items_seen l.items.items ≡ map valued_item (map arg_item (take l.arg-index l.args))
