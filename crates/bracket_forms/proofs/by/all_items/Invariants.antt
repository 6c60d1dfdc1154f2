use Rattle.std.proofs.Common.{◌≡◌, map, take}
use Rattle.bracket_forms.specs.Items.{item_seen, items_of}
use Rattle.bracket_forms.proofs.by.all_items.Given as goal

abbrev pub invariant-loop-arg : goal.invariant-loop-arg
invariant-loop-arg l = map item_seen l.items.items ≡ items_of (take l.arg-index l.args)
