use Rattle.std.proofs.Common.{◌≡◌, codes, drop, map}
use Rattle.assign_sides.specs.Seen.{arg_item}
use Rattle.session_model.proofs.InOrder.{onto}
use Rattle.session_model.specs.Asked.{wanted}
use Rattle.session_model.specs.Assigned.{left_text}
use Rattle.session_model.specs.Expression.{each}
use Rattle.assign_sides.proofs.left.left_texts.Given as goal

abbrev pub invariant-loop-arg : goal.invariant-loop-arg
invariant-loop-arg l =
    each (λ i. wanted (codes "j") (left_text i)) (map arg_item l.args)
    ≡ onto l.names.items (each (λ i. wanted (codes "j") (left_text i)) (map arg_item (drop l.arg-index l.args)))
