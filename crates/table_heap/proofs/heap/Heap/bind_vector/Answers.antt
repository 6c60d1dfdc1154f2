use Rattle.std.proofs.Common.{◌∙◌, ap}
use Rattle.dt_model.specs.State as model
use Rattle.table_heap.specs.declared.bound.Bound.TheVariants.{Vector}
use Rattle.table_heap.specs.State.{state_of}
use Rattle.table_heap.proofs.Heaps.{rebound_heap, rebound_state}
use Rattle.table_heap.proofs.heap.Heap.bind_vector.Goals as goal

pub invariant_of-self : goal.invariant_of-self
invariant_of-self c = rebound_heap _ c.args.name (Vector c.args.column) _ _ c.rebind.ensures.names
    c.rebind.ensures.slots c.self.invariant.sound tt c.self.invariant.named

pub returns-clause-state : goal.returns-clause-state
returns-clause-state c =
    rebound_state _ c.args.name (Vector c.args.column) _ _ c.rebind.ensures.names c.rebind.ensures.slots
    c.self.invariant.sound
    ∙ ap (λ h. model.bound_to (state_of h) c.args.name (model.Vector c.args.column.vector)) c.self.view_is
