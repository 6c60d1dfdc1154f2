-- That a heap and its state are alike.
use Rattle.std.proofs.Common.{◌≡◌, ℕ, Option, Some, None, refl, sym, ap, subst, ◌∙◌}
use Rattle.std.specs.Option.{option_map}
use Rattle.std.specs.FinMap.{get}
use Rattle.dt_model.specs.State as model
use Rattle.table_heap.specs.declared.bound.Id.{Id}
use Rattle.table_heap.specs.declared.bound.Bound.{Bound}
use Rattle.table_heap.specs.declared.bound.Bound.TheVariants.{Table, Vector}
use Rattle.table_heap.specs.Seen.{HeapSeen, slot_at}
use Rattle.table_heap.specs.State.{plain_bound, names_of, state_of}
use Rattle.table_heap.specs.Heap.{IsThere, IsApart, IsHeap}
use Rattle.table_heap.specs.Alike.{SameAt, Alike}
use Rattle.table_heap.proofs.Plain.{get-names}
use Rattle.table_heap.proofs.Slots.{place_of, get-there, count_tables}

-- what is bound is the same plainly
same_plain : (h : HeapSeen) (o : Option Bound) → IsApart h.held.slots → IsThere h.held.slots o
    → SameAt h (state_of h) o (option_map plain_bound o)
same_plain h None a t = tt
same_plain h (Some (Vector c)) a t = refl
same_plain h (Some (Table id)) a t =
    let p = place_of id.number (slot_at h.held.slots id.slot) t in (
      p.0.table,
      p.1 ∙ (λ i. Some (record { number = p.2 i; table = p.0.table })),
      ap (get (state_of h).tables)
          (sym p.2) ∙ get-there h.held.slots id.slot p.0 a p.1,
    )

number_of : (i j : ℕ) → Some (model.Table i) ≡ Some (model.Table j) → i ≡ j
number_of i j e = cc

-- Ids of one number have one place
one_id : (h : HeapSeen) → IsApart h.held.slots → (i j : Id) → IsThere h.held.slots (Some (Table i))
    → IsThere h.held.slots (Some (Table j)) → i.number ≡ j.number → i ≡ j
one_id h a i j t u e =
    let x = place_of i.number (slot_at h.held.slots i.slot) t in
    let y = place_of j.number (slot_at h.held.slots j.slot) u in
    let slots : i.slot ≡ j.slot = a i.slot j.slot x.0 y.0 x.1 y.1 (x.2 ∙ e ∙ sym y.2) in
    λ k. record { slot = slots k; number = e k }

pub alike_state : (h : HeapSeen) → IsHeap h.held → Alike h (state_of h)
alike_state h s = record {
  same = λ q. subst (SameAt h (state_of h) (get h.held.bounds q)) (sym (get-names h.held.bounds q))
      (same_plain h (get h.held.bounds q) s.sound.apart (s.sound.there q));
  one = λ p q i j e f.
      let at_p : get (names_of h.held.bounds) p ≡ Some (model.Table i.number) = get-names h.held.bounds p
      ∙ ap (option_map plain_bound) e in
      let at_q : get (names_of h.held.bounds) q ≡ Some (model.Table j.number) = get-names h.held.bounds q
      ∙ ap (option_map plain_bound) f in (
        λ same. at_p ∙ ap (λ (k : Id). Some (model.Table k.number)) same ∙ sym at_q,
        λ same. one_id h s.sound.apart i j (subst (IsThere h.held.slots) e (s.sound.there p))
            (subst (IsThere h.held.slots) f (s.sound.there q)) (number_of i.number j.number (sym at_p ∙ same ∙ at_q)),
      );
  live = sym (count_tables h.held.slots s.sound.apart);
}
