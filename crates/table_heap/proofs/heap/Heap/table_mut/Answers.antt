use Rattle.std.proofs.Common.{◌≡◌, ◌∙◌, ◌-◌, ap, sym, refl, subst, Some, slice_set}
use Rattle.indexmap.specs.IndexMap.{spare}
use Rattle.dt_model.specs.State.{with_table}
use Rattle.dt_table.specs.Plain.{plain}
use Rattle.table_heap.specs.Lending.{with_table_at}
use Rattle.table_heap.specs.Names.{bounds_of}
use Rattle.table_heap.specs.Seen.{IsAt, IsTableAt, room_of}
use Rattle.table_heap.specs.State.{state_of}
use Rattle.table_heap.proofs.Heaps.{written_through, written_state, written_count, number_there}
use Rattle.table_heap.proofs.heap.Heap.table_mut.Goals as goal

pub invariant_of-self-lent : goal.invariant_of-self-lent
invariant_of-self-lent c w =
    written_through _ c.args.id w c.self.invariant.sound (subst (λ h. IsAt h c.args.id) (sym c.self.view_is)
    c.requires) c.in-Some.place.now c.in-Some.ensures.value c.self.invariant.named

pub returns : goal.returns
returns c =
    let there : IsAt (record {
      held = record {
        bounds = bounds_of c.self.inside.names.entries;
        slots =
            c.self.inside.tables.slots;
        next = c.self.inside.next;
      };
      room = 0;
    }) c.args.id = subst (λ h. IsAt h c.args.id)
    (sym c.self.view_is) c.requires in
    let number = number_there _ c.args.id c.in-Some.place.now.table c.self.invariant.sound there c.in-Some.place.now
    c.in-Some.ensures.value in (
      (
        refl,
        λ w. (λ i. record {
          held = record {
            bounds = bounds_of c.self.inside.names.entries;
            slots = slice_set c.self.inside.tables.slots c.args.id.slot
                (Some (record { number = number i; table = w }));
            next = c.self.inside.next;
          };
          room = room_of (spare c.self.inside.names) (c.self.inside.tables.capacity - written_count
              c.self.inside.tables.slots c.args.id.slot c.args.id.number
              (record { number = c.in-Some.place.now.number; table = w }) there i) c.self.inside.next;
        })
            ∙ ap (λ h. with_table_at h c.args.id w) c.self.view_is,
      ),
      record {
        writes_back = tt;
        place = subst (λ h. IsTableAt h c.args.id c.in-Some.place.now.table) c.self.view_is
            (sym c.in-Some.ensures.value ∙ (λ i. Some (record
            { number = number i; table = c.in-Some.place.now.table })));
        plain = λ t. subst (λ h. state_of (with_table_at h c.args.id t)
            ≡ with_table (state_of h) c.args.id.number (plain t)) c.self.view_is
            (written_state _ c.args.id t c.self.invariant.sound there);
      },
    )
