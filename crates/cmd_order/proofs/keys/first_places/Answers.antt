use Rattle.std.proofs.Common.{◌++◌, ◌∷◌, [], ap, ◌∙◌}
use Rattle.cmd_order.proofs.KeyFacts.{place_more}
use Rattle.cmd_order.proofs.keys.first_places.Goals as goal

pub loop-place-preserved : goal.loop-place-preserved
loop-place-preserved c = c.in_ok-push.ensures.items ∙ (ap (λ l. l ++ c.loop-place.place ∷ []) c.loop-place.invariant
    ∙ place_more c.loop-place.place)
