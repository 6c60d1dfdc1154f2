use Rattle.std.proofs.Common.{◌∙◌, ap, sym, subst}
use Rattle.dt_model.specs.State as model
use Rattle.table_heap.specs.declared.bound.Bound.TheVariants.{Table}
use Rattle.table_heap.specs.Seen.{IsAt}
use Rattle.table_heap.specs.State.{state_of}
use Rattle.table_heap.proofs.Heaps.{rebound_heap, rebound_state, rebound_there}
use Rattle.table_heap.proofs.heap.Heap.bind_table.Goals as goal

pub invariant_of-self : goal.invariant_of-self
invariant_of-self c =
    rebound_heap _ c.args.name (Table c.args.id) _ _ c.rebind.ensures.names c.rebind.ensures.slots
    c.self.invariant.sound
    (subst (λ h. IsAt h c.args.id) (sym c.self.view_is) c.requires.live)
    c.self.invariant.named

pub returns-clause-state : goal.returns-clause-state
returns-clause-state c =
    rebound_state _ c.args.name (Table c.args.id) _ _ c.rebind.ensures.names c.rebind.ensures.slots
    c.self.invariant.sound
    ∙ ap (λ h. model.bound_to (state_of h) c.args.name (model.Table c.args.id.number)) c.self.view_is

pub returns-clause-live : goal.returns-clause-live
returns-clause-live c =
    rebound_there _ c.args.name (Table c.args.id) _ _ c.rebind.ensures.names c.rebind.ensures.slots
    c.self.invariant.sound
    (subst (λ h. IsAt h c.args.id) (sym c.self.view_is) c.requires.live)
