use Rattle.std.proofs.Common.{◌∙◌, ap}
use Rattle.dt_model.specs.State as model
use Rattle.dt_table.specs.Plain.{plain}
use Rattle.table_heap.specs.State.{state_of}
use Rattle.table_heap.proofs.Heaps.{new_heap, new_state}
use Rattle.table_heap.proofs.heap.Heap.bind_new.Goals as goal

pub invariant_of-self : goal.invariant_of-self
invariant_of-self c =
    new_heap _ c.put_table-id.result c.args.table _ c.put_table-id.ensures.number c.put_table-id.ensures.empty
    c.put_table-id.ensures.slots c.self.invariant.sound
    c.args.name _ _ c.rebind.ensures.names c.rebind.ensures.slots c.self.invariant.named

pub returns-clause-state : goal.returns-clause-state
returns-clause-state c =
    new_state _ c.put_table-id.result c.args.table _ c.put_table-id.ensures.number c.put_table-id.ensures.empty
    c.put_table-id.ensures.slots c.self.invariant.sound
    c.args.name _ _ c.rebind.ensures.names c.rebind.ensures.slots
    ∙ ap (λ h. model.bound_new (state_of h) c.args.name (plain c.args.table)) c.self.view_is
