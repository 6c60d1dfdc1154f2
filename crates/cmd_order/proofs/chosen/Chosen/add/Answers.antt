use Rattle.std.proofs.Common.{◌≡◌, ◌++◌, ◌∷◌, [], ap, ◌∙◌}
use Rattle.cmd_order.proofs.Choosing.{place_more, places_once}
use Rattle.cmd_order.proofs.chosen.Chosen.add.Goals as goal

-- the list and the set have the column more, which is none of the others
pub invariant_of-self-2 : goal.invariant_of-self-2
invariant_of-self-2 c =
    let more : c.push_reserved.new.self.items ≡ c.self.inside.list.items ++ c.args.column ∷ [] =
    c.push_reserved.ensures.items ∙ ap (λ l. l ++ c.args.column ∷ []) c.reserve.ensures.items in (
      (λ q. place_more c.self.inside.list.items c.push_reserved.new.self.items c.args.column q _ _
          (c.in_ok-insert.ensures.updates.0 q) (c.self.invariant.0 q) more),
      places_once c.self.inside.list.items c.push_reserved.new.self.items c.args.column _ c.in_ok-insert.field-0
          c.self.invariant.1 (c.self.invariant.0 c.args.column.col) c.in_ok-insert.ensures.added
          c.if-not-branch.false more,
    )
