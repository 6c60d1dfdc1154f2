use Rattle.std.proofs.Common.{◌∙◌, ap, sym, Some, None}
use Rattle.std.specs.FinMap.{get}
use Rattle.dt_model.specs.State as model
use Rattle.table_heap.specs.Alias.{remove_answer}
use Rattle.table_heap.specs.Names.{bounds_of}
use Rattle.table_heap.specs.State.{names_of, state_of}
use Rattle.table_heap.specs.Sweep.{swept_slots}
use Rattle.table_heap.proofs.Heaps.{unbound_heap, unbound_state, removed_absent, looked_at}
use Rattle.table_heap.proofs.heap.Heap.remove.Goals as goal

-- ---- the name was not bound

pub invariant_of-self : goal.invariant_of-self
invariant_of-self c =
    unbound_heap _ c.args.name.now _ _ c.in-None.ensures.names
    (ap (swept_slots (bounds_of c.take_name.new.names.entries) c.self.inside.tables.slots) c.in-None.ensures.old)
    c.self.invariant.sound c.self.invariant.named

pub returns-in-None-clause-state : goal.returns-in-None-clause-state
returns-in-None-clause-state c =
    unbound_state _ c.args.name.now _ _ c.in-None.ensures.names
    (ap (swept_slots (bounds_of c.take_name.new.names.entries) c.self.inside.tables.slots) c.in-None.ensures.old)
    c.self.invariant.sound
    ∙ ap (λ h. model.removed (state_of h) c.args.name.now) c.self.view_is

pub returns-in-None-clause-answer : goal.returns-in-None-clause-answer
returns-in-None-clause-answer c =
    ap remove_answer (looked_at _ _ None c.in-None.ensures.old
    ∙ ap (λ h. get (names_of h.held.bounds) c.args.name.now) c.self.view_is)

pub returns-in-None-clause-refused : goal.returns-in-None-clause-refused
returns-in-None-clause-refused c =
    returns-in-None-clause-state c
    ∙ removed_absent _ c.args.name.now (sym (looked_at _ _ None c.in-None.ensures.old
    ∙ ap (λ h. get (names_of h.held.bounds) c.args.name.now) c.self.view_is))

-- ---- the name was bound

pub invariant_of-self-in-Some : goal.invariant_of-self-in-Some
invariant_of-self-in-Some c =
    unbound_heap _ c.args.name.now _ _ c.in-Some.ensures.names
    (c.sweep.ensures.slots ∙ ap (swept_slots (bounds_of c.take_name.new.names.entries) c.self.inside.tables.slots)
    c.in-Some.ensures.old)
    c.self.invariant.sound c.self.invariant.named

pub returns-in-Some-clause-state : goal.returns-in-Some-clause-state
returns-in-Some-clause-state c =
    unbound_state _ c.args.name.now _ _ c.in-Some.ensures.names
    (c.sweep.ensures.slots ∙ ap (swept_slots (bounds_of c.take_name.new.names.entries) c.self.inside.tables.slots)
    c.in-Some.ensures.old)
    c.self.invariant.sound
    ∙ ap (λ h. model.removed (state_of h) c.args.name.now) c.self.view_is

pub returns-in-Some-clause-answer : goal.returns-in-Some-clause-answer
returns-in-Some-clause-answer c =
    ap remove_answer (looked_at _ _ (Some c.in-Some.old) c.in-Some.ensures.old
    ∙ ap (λ h. get (names_of h.held.bounds) c.args.name.now) c.self.view_is)
