use Rattle.std.proofs.Common.{◌∙◌, ap, sym, Some, None}
use Rattle.std.specs.FinMap.{get}
use Rattle.table_heap.specs.State.{names_of}
use Rattle.table_heap.specs.declared.bound.Bound.TheVariants.{Table, Vector}
use Rattle.table_heap.proofs.Heaps.{looked_at}
use Rattle.table_heap.proofs.heap.Heap.look.Goals as goal

-- the name is not bound
pub returns-in-None-clause-found : goal.returns-in-None-clause-found
returns-in-None-clause-found c =
    looked_at _ _ None c.in-None.ensures ∙ ap (λ h. get (names_of h.held.bounds) c.args.name.now) c.self.view_is

-- it is bound to a table
pub returns-in-Some-Table-clause-found : goal.returns-in-Some-Table-clause-found
returns-in-Some-Table-clause-found c =
    looked_at _ _ (Some (Table c.in-Some-Table.id)) (ap Some (sym c.in-Some-Table.field-0-is) ∙ c.in-Some-Table.ensures)
    ∙ ap (λ h. get (names_of h.held.bounds) c.args.name.now) c.self.view_is

-- it is bound to a vector
pub returns-in-Some-Vector-clause-found : goal.returns-in-Some-Vector-clause-found
returns-in-Some-Vector-clause-found c =
    looked_at _ _ (Some (Vector c.in-Some-Vector.column)) (ap Some (sym c.in-Some-Vector.field-0-is)
    ∙ c.in-Some-Vector.ensures)
    ∙ ap (λ h. get (names_of h.held.bounds) c.args.name.now) c.self.view_is
