use Rattle.std.proofs.Common.{◌≡◌, ◌++◌, ◌∷◌, []}
use Rattle.header_names.proofs.NameFacts.{set_pushed, taken_more}
use Rattle.header_names.proofs.names.Names.push.Goals as goal

-- the set and the list have the name more, and what was taken stays taken
pub invariant_of-self-2 : goal.invariant_of-self-2
invariant_of-self-2 c =
    let more : c.push.new.self.items ≡ c.self.inside.list.items ++ c.in_ok-copy.field-0 ∷ [] =
    (let e = c.in-Ok.ensures.items in let r = c.reserve.ensures.items in let k = c.in_ok-copy.ensures in cc) in (
      (λ q. set_pushed c.self.inside.list.items c.push.new.self.items c.in_ok-copy.field-0 q _ _
          (c.in_ok-insert.ensures.updates.0 q) (c.self.invariant.0 q) more),
      (λ q. taken_more _ q c.in_ok-copy.field-0 c.self.inside.list.items c.push.new.self.items more
          (c.self.invariant.1 q)),
    )
