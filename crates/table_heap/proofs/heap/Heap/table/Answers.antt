use Rattle.std.proofs.Common.{◌≡◌, Some, sym, subst}
use Rattle.std.specs.FinMap.{get}
use Rattle.dt_table.specs.Plain.{plain}
use Rattle.table_heap.specs.Seen.{IsAt}
use Rattle.table_heap.specs.State.{tables_of}
use Rattle.table_heap.proofs.Heaps.{seen_table}
use Rattle.table_heap.proofs.heap.Heap.table.Goals as goal

pub returns-clause-plain : goal.returns-clause-plain
returns-clause-plain c =
    subst (λ h. get (tables_of h.held.slots) c.args.id.number ≡ Some (plain c.in-Some.place.now.table)) c.self.view_is
    (seen_table c.self.inside.tables.slots c.args.id.slot c.args.id.number c.in-Some.place.now
    c.self.invariant.sound.apart c.in-Some.ensures (subst (λ h. IsAt h c.args.id) (sym c.self.view_is) c.requires))
