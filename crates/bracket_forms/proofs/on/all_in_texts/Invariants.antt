use Rattle.std.proofs.Common.{◌≡◌, drop}
use Rattle.bracket_forms.specs.Items.{items_of, text_wanted, ons_seen}
use Rattle.session_model.proofs.InOrder.{onto}
use Rattle.session_model.specs.Expression.{each}
use Rattle.bracket_forms.proofs.on.all_in_texts.Given as goal

abbrev pub invariant-loop-arg : goal.invariant-loop-arg
invariant-loop-arg l =
    each (text_wanted l.word) (items_of l.args)
    ≡ onto (ons_seen l.items) (each (text_wanted l.word) (items_of (drop l.arg-index l.args)))
