-- Heaps with one table changed: what a place has then, and heaps that are the same but for spare numbers.
use Rattle.std.proofs.Common.{◌≡◌, ◌<◌, ℕ, zero, suc, [], ◌∷◌, map, Option, Some, None, refl, sym, ap, subst, ◌∙◌}
use Rattle.std.proofs.Common.{inl, inr, slice_set, Result, Ok, Err, OnOk}
use Rattle.std.proofs.lemmas.Bool.{cases_eq}
use Rattle.std.specs.FinMap.{from_entries, get}
use Rattle.dt_model.specs.State.{IsNamed}
use Rattle.dt_model.specs.Table.{heads_of, rows_of, names_at}
use Rattle.dt_table.specs.Plain.{plain}
use Rattle.dt_table.specs.Table.{HasSame, TableSeen}
use Rattle.table_heap.specs.declared.bound.Bound.{Bound}
use Rattle.table_heap.specs.declared.bound.Bound.TheVariants.{Table, Vector}
use Rattle.table_heap.specs.declared.bound.Id.{Id}
use Rattle.table_heap.specs.declared.bound.Numbered.{Numbered}
use Rattle.table_heap.specs.Changes.{HoldsSame, SameNumbered, SamePlace, SamePlaces}
use Rattle.table_heap.specs.Changes.{StaysLive}
use Rattle.table_heap.specs.Heap.{IsApart, IsFresh, IsHeap, IsThere}
use Rattle.table_heap.specs.Lending.{with_table_at}
use Rattle.table_heap.specs.Seen.{HasNumber, HeapSeen, IsAt, IsTableAt, Slots, slot_at}
use Rattle.table_heap.specs.State.{names_of, numbered_tables, state_of}
use Rattle.table_heap.proofs.Slots.{none_some, one_number, place_within, same_some, sets_slot}

-- ---- The same but for spare numbers

table_same : (t : TableSeen) → HasSame t t
table_same t = record { names = refl; vectors = refl; rows = refl; key = refl; indices = refl; slots = refl }

table_more : (t u v : TableSeen) → HasSame t u → HasSame u v → HasSame t v
table_more t u v a b = record {
  names = b.names ∙ a.names;
  vectors = b.vectors ∙ a.vectors;
  rows = b.rows ∙ a.rows;
  key = b.key ∙ a.key;
  indices = b.indices ∙ a.indices;
  slots = b.slots ∙ a.slots;
}

plain_same : (t u : TableSeen) → HasSame t u → plain u ≡ plain t
plain_same t u s = λ i. record {
  columns = heads_of (s.names i) (s.vectors i);
  rows = rows_of (s.rows i) (s.vectors i);
  key = names_at (s.names i) (s.key i);
  indices = map (λ x. names_at (s.names i) x.cols) (s.indices i);
  slots = s.slots i;
}

place_same : (o : Option Numbered) → SamePlace o o
place_same None = tt
place_same (Some x) = record { number = refl; table = table_same x.table }

place_more : (o p q : Option Numbered) → SamePlace o p → SamePlace p q → SamePlace o q
place_more None None None a b = tt
place_more None None (Some z) a b = absurd b
place_more None (Some y) q a b = absurd a
place_more (Some x) None q a b = absurd a
place_more (Some x) (Some y) None a b = absurd b
place_more (Some x) (Some y) (Some z) a b =
    record { number = b.number ∙ a.number; table = table_more x.table y.table z.table a.table b.table }

places_same : (slots : Slots) → SamePlaces slots slots
places_same [] = tt
places_same (o ∷ os) = (place_same o, places_same os)

places_more : (a b c : Slots) → SamePlaces a b → SamePlaces b c → SamePlaces a c
places_more [] [] [] h g = tt
places_more [] [] (z ∷ zs) h g = absurd g
places_more [] (y ∷ ys) c h g = absurd h
places_more (x ∷ xs) [] c h g = absurd h
places_more (x ∷ xs) (y ∷ ys) [] h g = absurd g
places_more (x ∷ xs) (y ∷ ys) (z ∷ zs) h g = (place_more x y z h.0 g.0, places_more xs ys zs h.1 g.1)

pub same_itself : (h : HeapSeen) → HoldsSame h h
same_itself h = record { bounds = refl; places = places_same h.held.slots; next = refl }

pub same_more : (a b c : HeapSeen) → HoldsSame a b → HoldsSame b c → HoldsSame a c
same_more a b c h g = record {
  bounds = g.bounds ∙ h.bounds;
  places = places_more a.held.slots b.held.slots c.held.slots h.places g.places;
  next = g.next ∙ h.next;
}

-- ---- Their state

numbered_same : (a b : Slots) → SamePlaces a b → numbered_tables b ≡ numbered_tables a
numbered_same [] [] h = refl
numbered_same [] (y ∷ ys) h = absurd h
numbered_same (x ∷ xs) [] h = absurd h
numbered_same (None ∷ xs) (None ∷ ys) h = numbered_same xs ys h.1
numbered_same (None ∷ xs) (Some y ∷ ys) h = absurd h.0
numbered_same (Some x ∷ xs) (None ∷ ys) h = absurd h.0
numbered_same (Some x ∷ xs) (Some y ∷ ys) h =
    let number : y.number ≡ x.number = h.0.number in
    let table : plain y.table ≡ plain x.table = plain_same x.table y.table h.0.table in
    let rest : numbered_tables ys ≡ numbered_tables xs = numbered_same xs ys h.1 in
    λ i. (number i, table i) ∷ rest i

pub same_state : (a b : HeapSeen) → HoldsSame a b → state_of b ≡ state_of a
same_state a b h =
    let tables : numbered_tables b.held.slots ≡ numbered_tables a.held.slots =
    numbered_same a.held.slots b.held.slots h.places in
    λ i. record { names = names_of (h.bounds i); tables = from_entries (tables i); next = h.next i }

-- ---- What stands at a place

at_place : (a b : Slots) → SamePlaces a b → (k : ℕ) → SamePlace (slot_at a k) (slot_at b k)
at_place [] [] h k = tt
at_place [] (y ∷ ys) h k = absurd h
at_place (x ∷ xs) [] h k = absurd h
at_place (x ∷ xs) (y ∷ ys) h zero = h.0
at_place (x ∷ xs) (y ∷ ys) h (suc k) = at_place xs ys h.1 k

same_number : (n : ℕ) (o p : Option Numbered) → SamePlace o p → HasNumber n o → HasNumber n p
same_number n None p s h = absurd h
same_number n (Some x) None s h = absurd s
same_number n (Some x) (Some y) s h = s.number ∙ h

pub same_live : (a b : HeapSeen) → HoldsSame a b → StaysLive a b
same_live a b h x at =
    same_number x.number (slot_at a.held.slots x.slot) (slot_at b.held.slots x.slot)
    (at_place a.held.slots b.held.slots h.places x.slot) at

-- what the other heap has there
was_there : (o p : Option Numbered) (y : Numbered) → SamePlace o p → p ≡ Some y
    → (x : Numbered) × (o ≡ Some x) × (y.number ≡ x.number)
was_there None None y s e = absurd (none_some e)
was_there None (Some z) y s e = absurd s
was_there (Some x) None y s e = absurd s
was_there (Some x) (Some z) y s e = (x, refl, ap (λ w. w.number) (sym (same_some e)) ∙ s.number)

same_there : (a b : Slots) → SamePlaces a b → (o : Option Bound) → IsThere a o → IsThere b o
same_there a b h None t = tt
same_there a b h (Some (Vector c)) t = tt
same_there a b h (Some (Table id)) t =
    same_number id.number (slot_at a id.slot) (slot_at b id.slot) (at_place a b h id.slot) t

same_apart : (a b : Slots) → SamePlaces a b → IsApart a → IsApart b
same_apart a b h apart i j x y e f n =
    let p = was_there (slot_at a i) (slot_at b i) x (at_place a b h i) e in
    let q = was_there (slot_at a j) (slot_at b j) y (at_place a b h j) f in
    apart i j p.0 q.0 p.1 q.1 (sym p.2 ∙ n ∙ q.2)

same_fresh : (next : ℕ) (a b : Slots) → SamePlaces a b → IsFresh next a → IsFresh next b
same_fresh next a b h fresh k x e =
    let p = was_there (slot_at a k) (slot_at b k) x (at_place a b h k) e in
    subst (λ n. n < next) (sym p.2) (fresh k p.0 p.1)

pub same_heap : (a b : HeapSeen) → HoldsSame a b → IsHeap a.held → IsHeap b.held
same_heap a b h s = record {
  sound = record {
    there = λ q.
        subst (λ m. IsThere b.held.slots (get m q)) (sym h.bounds)
        (same_there a.held.slots b.held.slots h.places _ (s.sound.there q));
    apart = same_apart a.held.slots b.held.slots h.places s.sound.apart;
    fresh =
        subst (λ n. IsFresh n b.held.slots) (sym h.next)
        (same_fresh a.held.next a.held.slots b.held.slots h.places s.sound.fresh);
  };
  named = subst IsNamed (sym (same_state a b h)) s.named;
}

-- ---- One table changed

-- the table of an Id is one
pub one_table : (h : HeapSeen) (id : Id) (t u : TableSeen) → IsTableAt h id t → IsTableAt h id u → t ≡ u
one_table h id t u a b = ap (λ x. x.table) (same_some (sym a ∙ b))

-- the Id's place has the new table
pub put_at : (h : HeapSeen) (id : Id) (w : TableSeen) → IsAt h id → IsTableAt (with_table_at h id w) id w
put_at h id w at = (sets_slot h.held.slots id.slot _ (place_within h.held.slots id.slot id.number at)).changed

-- and each Id that was live is live
pub put_live : (h : HeapSeen) (id : Id) (w : TableSeen) → IsAt h id → StaysLive h (with_table_at h id w)
put_live h id w at x live =
    let sets =
    sets_slot h.held.slots id.slot (Some (record { number = id.number; table = w }))
    (place_within h.held.slots id.slot id.number at) in
    elim (cases_eq x.slot id.slot) [
      | inl e ↦
          let there : HasNumber x.number (slot_at h.held.slots id.slot) =
          subst (λ k. HasNumber x.number (slot_at h.held.slots k)) e live in
          let same : x.number ≡ id.number = one_number x.number id.number (slot_at h.held.slots id.slot) there at in
          subst (λ k. HasNumber x.number (slot_at (with_table_at h id w).held.slots k)) (sym e)
          (subst (HasNumber x.number) (sym sets.changed) (sym same))
      | inr d ↦ subst (HasNumber x.number) (sym (sets.others x.slot d)) live
    ]

-- a table that differs in spare numbers alone, in its place
places_put : (slots : Slots) (k : ℕ) (x y : Numbered) → slot_at slots k ≡ Some x → SameNumbered x y
    → SamePlaces slots (slice_set slots k (Some y))
places_put [] k x y e s = absurd (none_some e)
places_put (o ∷ os) zero x y e s = (subst (λ z. SamePlace z (Some y)) (sym e) s, places_same os)
places_put (o ∷ os) (suc k) x y e s = (place_same o, places_put os k x y e s)

pub put_same : (h : HeapSeen) (id : Id) (t w : TableSeen) → IsTableAt h id t → HasSame t w
    → HoldsSame h (with_table_at h id w)
put_same h id t w at s = record {
  bounds = refl;
  places =
      places_put h.held.slots id.slot (record { number = id.number; table = t })
      (record { number = id.number; table = w }) at (record { number = refl; table = s });
  next = refl;
}

-- what follows from an answer that is no error
pub on_ok : {T E : Type 0} (P Q : Type 0) (r : Result T E) → (P → Q) → OnOk r P → OnOk r Q
on_ok P Q (Ok x) f h = f h
on_ok P Q (Err e) f h = h
