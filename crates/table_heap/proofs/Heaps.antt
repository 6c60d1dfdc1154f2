-- What is so of every heap, and the state it stands for, after each change.
use Rattle.std.proofs.Common.{◌≡◌, ◌+◌, ◌<◌, ◌≤◌, ℕ, Bool, true, false, cond, List, [], Option, Some, None, IsSome}
use Rattle.std.proofs.Common.{is_some, count_by, refl, sym, ap, subst, ◌∙◌, true≢false, inl, inr, nat_eq, arith}
use Rattle.std.proofs.Common.{slice_set}
use Rattle.std.specs.Option.{option_map}
use Rattle.std.specs.Ordering.{nat_cmp, eq_by_cmp}
use Rattle.std.specs.Cmp.{unsigned_ties}
use Rattle.std.specs.Cmp.Lexicographic.{slice_cmp, nat_list_cmp_total}
use Rattle.std.specs.FinMap.{get, insert, remove, empty, get-insert, get-remove, get-empty}
use Rattle.std.proofs.lemmas.Cmp.{nat_cmp_total, eq_by_cmp_equiv}
use Rattle.std.proofs.lemmas.Bool.{cases_eq}
use Rattle.std.proofs.lemmas.List.Sums.{sum_by-set}
use Rattle.dt_model.specs.State as model
use Rattle.dt_model.specs.State.{State, IsState, IsNamed, has_name, swept, bound_to, bound_new, removed, added}
use Rattle.dt_model.specs.State.{with_table}
use Rattle.dt_model.proofs.States.{named_by}
use Rattle.dt_model.proofs.Named.{bound_named, bound_new_named, removed_named}
use Rattle.dt_table.specs.Plain.{plain}
use Rattle.dt_table.specs.Table.{TableSeen}
use Rattle.table_heap.specs.declared.bound.Id.{Id}
use Rattle.table_heap.specs.declared.bound.Bound.{Bound}
use Rattle.table_heap.specs.declared.bound.Bound.TheVariants.{Table, Vector}
use Rattle.table_heap.specs.declared.bound.Numbered.{Numbered}
use Rattle.table_heap.specs.Seen.{Bounds, Slots, Held, slot_at, HasNumber}
use Rattle.table_heap.specs.State.{plain_bound, names_of, tables_of, state_in}
use Rattle.table_heap.specs.Heap.{IsThere, IsApart, IsFresh, IsSound, IsHeap}
use Rattle.table_heap.specs.Sweep.{swept_slots, SetsSlot}
use Rattle.table_heap.proofs.Plain.{get-names, remove_absent, names-empty, names-insert, names-remove}
use Rattle.table_heap.proofs.Slots.{place_of, one_number, place_within, IsUnused, get-there, get-unused, SetsTable}
use Rattle.table_heap.proofs.Slots.{apart-set, tables-put, tables-taken, sets-new, sets-over, none_some, same_some}
use Rattle.table_heap.proofs.Slots.{hit, same_number, ties}

-- ---- the state of a sound heap

-- the table of a place with this number is found
pub get-at : (slots : Slots) (k n : ℕ) → IsApart slots → HasNumber n (slot_at slots k)
    → IsSome (get (tables_of slots) n)
get-at slots k n a h =
    let p = place_of n (slot_at slots k) h in
    ap (λ m. is_some (get (tables_of slots) m)) (sym p.2) ∙ ap is_some (get-there slots k p.0 a p.1)

live_plain : (h : Held) (o : Option Bound) → IsApart h.slots → IsThere h.slots o
    → model.IsLive (state_in h) (option_map plain_bound o)
live_plain h None a t = tt
live_plain h (Some (Vector c)) a t = tt
live_plain h (Some (Table id)) a t = get-at h.slots id.slot id.number a t

unused_from : (next : ℕ) (slots : Slots) → IsFresh next slots → (k : ℕ) → next ≤ k → IsUnused slots k
unused_from next slots f k le i x h e = let below : x.number < next = f i x h in omega arith

pub sound_state : (h : Held) → IsSound h → IsState (state_in h)
sound_state h s = record {
  live = λ q. subst (model.IsLive (state_in h)) (sym (get-names h.bounds q))
      (live_plain h (get h.bounds q) s.apart (s.there q));
  fresh = λ k le. get-unused h.slots k (unused_from h.next h.slots s.fresh k le);
}

-- ---- after a sweep

module _ (slots : Slots) (id : Id) (a : IsApart slots) (h : HasNumber id.number (slot_at slots id.slot)) where
  taken : SetsTable slots (slice_set slots id.slot None) id.slot id.number None
  taken = sets-over slots id.slot id.number None a h (λ x e. absurd (none_some e))

  taken_fresh : (next : ℕ) → IsFresh next slots → IsFresh next (slice_set slots id.slot None)
  taken_fresh next f i x e =
      elim (cases_eq i id.slot) [
        | inl same ↦ absurd (none_some (sym taken.sets.changed
            ∙ ap (slot_at (slice_set slots id.slot None)) (sym same) ∙ e))
        | inr d ↦ f i x (sym (taken.sets.others i d) ∙ e)
      ]

  -- what a name is bound to stays, where the table that goes has no name
  taken_there : (b : Bounds) → has_name (names_of b) id.number ≡ false → (q : List ℕ) (o : Option Bound) → get b q ≡ o
      → IsThere slots o → IsThere (slice_set slots id.slot None) o
  taken_there b n q None g t = tt
  taken_there b n q (Some (Vector c)) g t = tt
  taken_there b n q (Some (Table j)) g t =
      let away : j.slot ≡ id.slot → ⊥ = λ e.
      let same : j.number ≡ id.number = one_number j.number id.number (slot_at slots id.slot)
      (subst (λ k. HasNumber j.number (slot_at slots k)) e t) h in
      let number : nat_eq j.number id.number ≡ true = unsigned_ties j.number id.number ∙ ties j.number id.number same in
      true≢false (sym (named_by (names_of b) q (model.Table j.number) id.number
      (get-names b q ∙ ap (option_map plain_bound) g) number) ∙ n) in
      subst (HasNumber j.number) (sym (taken.sets.others j.slot away)) t

swept-tables : (b : Bounds) (slots : Slots) (o : Option Bound) → IsApart slots → IsThere slots o
    → tables_of (swept_slots b slots o) ≡ swept (names_of b) (tables_of slots) (option_map plain_bound o)
swept-tables b slots None a t = refl
swept-tables b slots (Some (Vector c)) a t = refl
swept-tables b slots (Some (Table id)) a t =
    elim (has_name (names_of b) id.number) as (λ c. tables_of (cond c slots (slice_set slots id.slot None))
    ≡ cond c (tables_of slots) (remove (tables_of slots) id.number)) [
      | true ↦ refl
      | false ↦ tables-taken slots (slice_set slots id.slot None) id.slot id.number (taken slots id a t)
    ]

swept-apart : (b : Bounds) (slots : Slots) (o : Option Bound) → IsApart slots → IsThere slots o
    → IsApart (swept_slots b slots o)
swept-apart b slots None a t = a
swept-apart b slots (Some (Vector c)) a t = a
swept-apart b slots (Some (Table id)) a t =
    elim (has_name (names_of b) id.number) as (λ c. IsApart (cond c slots (slice_set slots id.slot None))) [
      | true ↦ a
      | false ↦ apart-set slots (slice_set slots id.slot None) id.slot id.number None (taken slots id a t)
    ]

swept-fresh : (next : ℕ) (b : Bounds) (slots : Slots) (o : Option Bound) → IsApart slots → IsThere slots o
    → IsFresh next slots → IsFresh next (swept_slots b slots o)
swept-fresh next b slots None a t f = f
swept-fresh next b slots (Some (Vector c)) a t f = f
swept-fresh next b slots (Some (Table id)) a t f =
    elim (has_name (names_of b) id.number) as (λ c. IsFresh next (cond c slots (slice_set slots id.slot None))) [
      | true ↦ f
      | false ↦ taken_fresh slots id a t next f
    ]

swept-there : (b : Bounds) (slots : Slots) (o : Option Bound) → IsApart slots → IsThere slots o → (q : List ℕ)
    → IsThere slots (get b q) → IsThere (swept_slots b slots o) (get b q)
swept-there b slots None a t q g = g
swept-there b slots (Some (Vector c)) a t q g = g
swept-there b slots (Some (Table id)) a t q g =
    (elim (has_name (names_of b) id.number) as (λ c. has_name (names_of b) id.number ≡ c
    → IsThere (cond c slots (slice_set slots id.slot None)) (get b q)) [
      | true ↦ λ e. g
      | false ↦ λ e. taken_there slots id a t b e q (get b q) refl g
    ]) refl

-- ---- one name has changed, and the table that lost its last name is gone

-- the bounds changed at one name, to what is there or to nothing
module _ (h : Held) (p : List ℕ) (w : Option Bound) (bounds : Bounds) (slots : Slots) where
  pub renamed_sound : ((q : List ℕ) → get bounds q ≡ cond (eq_by_cmp (slice_cmp nat_cmp) q p) w (get h.bounds q))
      → slots ≡ swept_slots bounds h.slots (get h.bounds p) → IsSound h → IsThere h.slots w
      → IsSound (record { bounds = bounds; slots = slots; next = h.next })
  renamed_sound at e s t =
      let there : (q : List ℕ) → IsThere h.slots (get bounds q) = λ q. subst (IsThere h.slots) (sym (at q))
      (either (eq_by_cmp (slice_cmp nat_cmp) q p) w (get h.bounds q) t (s.there q)) in
      rw e (record {
        there = λ q. swept-there bounds h.slots (get h.bounds p) s.apart (s.there p) q (there q);
        apart = swept-apart bounds h.slots (get h.bounds p) s.apart (s.there p);
        fresh = swept-fresh h.next bounds h.slots (get h.bounds p) s.apart (s.there p) s.fresh;
      })
    where
      either : (c : Bool) (x y : Option Bound) → IsThere h.slots x → IsThere h.slots y → IsThere h.slots (cond c x y)
      either true x y f g = f
      either false x y f g = g

-- the state after the name is bound to x
module _ (h : Held) (p : List ℕ) (x : Bound) (bounds : Bounds) (slots : Slots) (n : bounds ≡ insert h.bounds p x)
    (e : slots ≡ swept_slots bounds h.slots (get h.bounds p)) (s : IsSound h) where
  pub rebound_state : state_in (record { bounds = bounds; slots = slots; next = h.next })
      ≡ bound_to (state_in h) p (plain_bound x)
  rebound_state =
      let names : names_of bounds ≡ insert (names_of h.bounds) p (plain_bound x) = ap names_of n
      ∙ names-insert h.bounds p x in
      let tables : tables_of slots ≡ swept (insert (names_of h.bounds) p (plain_bound x)) (tables_of h.slots)
      (get (names_of h.bounds) p) =
      ap tables_of e
      ∙ swept-tables bounds h.slots (get h.bounds p) s.apart (s.there p)
      ∙ ap (λ m. swept m (tables_of h.slots) (option_map plain_bound (get h.bounds p))) names
      ∙ ap (swept (insert (names_of h.bounds) p (plain_bound x)) (tables_of h.slots)) (sym (get-names h.bounds p)) in
      λ i. record { names = names i; tables = tables i; next = h.next }

  pub rebound_sound : IsThere h.slots (Some x) → IsSound (record { bounds = bounds; slots = slots; next = h.next })
  rebound_sound t = renamed_sound h p (Some x) bounds slots
      (λ q. ap (λ b. get b q) n ∙ get-insert nat_list_cmp_total h.bounds p x q) e s t

  -- what the name is bound to is there still
  pub rebound_there : IsThere h.slots (Some x) → IsThere slots (Some x)
  rebound_there t =
      let found : get bounds p ≡ Some x = ap (λ b. get b p) n ∙ get-insert nat_list_cmp_total h.bounds p x p
      ∙ hit (eq_by_cmp (slice_cmp nat_cmp) p p) (Some x) (get h.bounds p)
      ((eq_by_cmp_equiv nat_list_cmp_total).refl p) in
      subst (IsThere slots) found ((rebound_sound t).there p)

  pub rebound_heap : IsThere h.slots (Some x) → IsNamed (state_in h)
      → IsHeap (record { bounds = bounds; slots = slots; next = h.next })
  rebound_heap t named = record {
    sound = rebound_sound t;
    named = subst IsNamed (sym rebound_state) (bound_named (state_in h) p (plain_bound x) (λ k g. inl (named k g)));
  }

-- the state after the name is removed
module _ (h : Held) (p : List ℕ) (bounds : Bounds) (slots : Slots) (n : bounds ≡ remove h.bounds p)
    (e : slots ≡ swept_slots bounds h.slots (get h.bounds p)) (s : IsSound h) where
  pub unbound_state : state_in (record { bounds = bounds; slots = slots; next = h.next }) ≡ removed (state_in h) p
  unbound_state =
      let names : names_of bounds ≡ remove (names_of h.bounds) p = ap names_of n ∙ names-remove h.bounds p in
      let tables : tables_of slots ≡ swept (remove (names_of h.bounds) p) (tables_of h.slots)
      (get (names_of h.bounds) p) =
      ap tables_of e
      ∙ swept-tables bounds h.slots (get h.bounds p) s.apart (s.there p)
      ∙ ap (λ m. swept m (tables_of h.slots) (option_map plain_bound (get h.bounds p))) names
      ∙ ap (swept (remove (names_of h.bounds) p) (tables_of h.slots)) (sym (get-names h.bounds p)) in
      λ i. record { names = names i; tables = tables i; next = h.next }

  pub unbound_heap : IsNamed (state_in h) → IsHeap (record { bounds = bounds; slots = slots; next = h.next })
  unbound_heap named = record {
    sound = renamed_sound h p None bounds slots (λ q. ap (λ b. get b q) n
        ∙ get-remove nat_list_cmp_total h.bounds p q) e s tt;
    named = subst IsNamed (sym unbound_state) (removed_named (state_in h) p named);
  }

-- ---- a new table

-- a table was put under the next number, and has no name yet
module _ (h : Held) (id : Id) (t : TableSeen) (slots : Slots) (number : id.number ≡ h.next)
    (empty : slot_at h.slots id.slot ≡ None) (u : SetsSlot h.slots slots id.slot
    (Some (record { number = h.next; table = t }))) (s : IsSound h) where
  unused : IsUnused h.slots h.next
  unused = unused_from h.next h.slots s.fresh h.next (omega arith)

  put : SetsTable h.slots slots id.slot h.next (Some (record { number = h.next; table = t }))
  put = sets-new h.slots slots id.slot h.next (record { number = h.next; table = t }) s.apart unused empty refl u

  still_there : (o : Option Bound) → IsThere h.slots o → IsThere slots o
  still_there None g = tt
  still_there (Some (Vector c)) g = tt
  still_there (Some (Table j)) g =
      let away : j.slot ≡ id.slot → ⊥ = λ e. let p = place_of j.number (slot_at h.slots j.slot) g in none_some
      (sym empty ∙ ap (slot_at h.slots) (sym e) ∙ p.1) in
      subst (HasNumber j.number) (sym (u.others j.slot away)) g

  still_fresh : IsFresh (h.next + 1) slots
  still_fresh i x e =
      elim (cases_eq i id.slot) [
        | inl same ↦ (let new : x.number ≡ h.next = ap (λ z. z.number)
            (sym (same_some (sym u.changed ∙ ap (slot_at slots) (sym same) ∙ e))) in omega arith)
        | inr d ↦ (let old : x.number < h.next = s.fresh i x (sym (u.others i d) ∙ e) in omega arith)
      ]

  pub added_sound : IsSound (record { bounds = h.bounds; slots = slots; next = h.next + 1 })
  added_sound = record {
    there = λ q. still_there (get h.bounds q) (s.there q);
    apart = apart-set h.slots slots id.slot h.next (Some (record { number = h.next; table = t })) put;
    fresh = still_fresh;
  }

  pub added_there : IsThere slots (Some (Table id))
  added_there = subst (HasNumber id.number) (sym u.changed) (sym number)

  pub added_state : state_in (record { bounds = h.bounds; slots = slots; next = h.next + 1 })
      ≡ added (state_in h) (plain t)
  added_state =
      let tables : tables_of slots ≡ insert (tables_of h.slots) h.next (plain t) = tables-put h.slots slots id.slot
      h.next (record { number = h.next; table = t }) put in
      λ i. record { names = names_of h.bounds; tables = tables i; next = h.next + 1 }

  -- and then the name is bound to it
  module _ (p : List ℕ) (bounds : Bounds) (left : Slots) (n : bounds ≡ insert h.bounds p (Table id))
      (e : left ≡ swept_slots bounds slots (get h.bounds p)) where
    pub new_state : state_in (record { bounds = bounds; slots = left; next = h.next + 1 })
        ≡ bound_new (state_in h) p (plain t)
    new_state =
        rebound_state (record { bounds = h.bounds; slots = slots; next = h.next + 1 }) p (Table id) bounds left n e
        added_sound
        ∙ ap (λ z. bound_to z p (model.Table id.number)) added_state
        ∙ ap (λ k. bound_to (added (state_in h) (plain t)) p (model.Table k)) number

    pub new_heap : IsNamed (state_in h) → IsHeap (record { bounds = bounds; slots = left; next = h.next + 1 })
    new_heap named = record {
      sound = rebound_sound (record { bounds = h.bounds; slots = slots; next = h.next + 1 }) p (Table id) bounds left
          n e added_sound added_there;
      named = subst IsNamed (sym new_state) (bound_new_named (state_in h) p (plain t) named);
    }

-- ---- a table is written

module _ (h : Held) (id : Id) (w : TableSeen) (s : IsSound h) (at : HasNumber id.number (slot_at h.slots id.slot)) where
  abbrev written : Slots
  written = slice_set h.slots id.slot (Some (record { number = id.number; table = w }))

  over : SetsTable h.slots written id.slot id.number (Some (record { number = id.number; table = w }))
  over = sets-over h.slots id.slot id.number (Some (record { number = id.number; table = w })) s.apart at
      (λ x e. ap (λ z. z.number) (sym (same_some e)))

  pub written_state : state_in (record { bounds = h.bounds; slots = written; next = h.next })
      ≡ with_table (state_in h) id.number (plain w)
  written_state =
      let tables : tables_of written ≡ insert (tables_of h.slots) id.number (plain w) = tables-put h.slots written
      id.slot id.number (record { number = id.number; table = w }) over in
      λ i. record { names = names_of h.bounds; tables = tables i; next = h.next }

  written_there : (o : Option Bound) → IsThere h.slots o → IsThere written o
  written_there None g = tt
  written_there (Some (Vector c)) g = tt
  written_there (Some (Table j)) g =
      elim (cases_eq j.slot id.slot) [
        | inl e ↦
            let same : j.number ≡ id.number = one_number j.number id.number (slot_at h.slots id.slot)
            (subst (λ k. HasNumber j.number (slot_at h.slots k)) e g) at in
            subst (λ k. HasNumber j.number (slot_at written k)) (sym e)
            (subst (HasNumber j.number) (sym over.sets.changed) (sym same))
        | inr d ↦ subst (HasNumber j.number) (sym (over.sets.others j.slot d)) g
      ]

  written_fresh : IsFresh h.next written
  written_fresh i x e =
      let p = place_of id.number (slot_at h.slots id.slot) at in
      elim (cases_eq i id.slot) [
        | inl same ↦
            (let new : x.number ≡ id.number = ap (λ z. z.number)
            (sym (same_some (sym over.sets.changed ∙ ap (slot_at written) (sym same) ∙ e))) in
            let old : p.0.number < h.next = s.fresh id.slot p.0 p.1 in
            let number : p.0.number ≡ id.number = p.2 in
            omega arith)
        | inr d ↦ s.fresh i x (sym (over.sets.others i d) ∙ e)
      ]

  pub written_heap : IsNamed (state_in h) → IsHeap (record { bounds = h.bounds; slots = written; next = h.next })
  written_heap named = record {
    sound = record {
      there = λ q. written_there (get h.bounds q) (s.there q);
      apart = apart-set h.slots written id.slot id.number (Some (record { number = id.number; table = w })) over;
      fresh = written_fresh;
    };
    named = subst IsNamed (sym written_state) (λ k g. named k (was_there k g));
  }
    where
      was_there : (k : ℕ) → IsSome (get (insert (tables_of h.slots) id.number (plain w)) k)
          → IsSome (get (tables_of h.slots) k)
      was_there k g =
          (elim (eq_by_cmp nat_cmp k id.number) as (λ c. eq_by_cmp nat_cmp k id.number ≡ c
          → IsSome (cond c (Some (plain w)) (get (tables_of h.slots) k)) → IsSome (get (tables_of h.slots) k)) [
            | true ↦ λ e f. subst (λ m. IsSome (get (tables_of h.slots) m)) (sym (same_number k id.number e))
                (get-at h.slots id.slot id.number s.apart at)
            | false ↦ λ e f. f
          ]) refl (sym (ap is_some (get-insert nat_cmp_total (tables_of h.slots) id.number (plain w) k)) ∙ g)

  -- the number of what stood there is the Id's
  module _ (x : Numbered) (e : Some x ≡ slot_at h.slots id.slot) where
    pub number_there : x.number ≡ id.number
    number_there = subst (HasNumber id.number) (sym e) at

    pub written_through : IsNamed (state_in h) → IsHeap (record {
      bounds = h.bounds;
      slots = slice_set h.slots id.slot (Some (record { number = x.number; table = w }));
      next
          = h.next;
    })
    written_through named = subst (λ k. IsHeap (record {
      bounds = h.bounds;
      slots = slice_set h.slots id.slot
          (Some (record { number = k; table = w }));
      next = h.next;
    })) (sym number_there) (written_heap named)

level : (a b x : ℕ) → a + x ≡ b + 1 → x ≡ 1 → a ≡ b
level a b x e one = omega arith

-- as many places are filled as before
pub written_count : (slots : Slots) (k n : ℕ) (y : Numbered) → HasNumber n (slot_at slots k)
    → count_by is_some (slice_set slots k (Some y)) ≡ count_by is_some slots
written_count slots k n y h =
    let p = place_of n (slot_at slots k) h in
    level _ _ _ (sum_by-set (λ o. cond (is_some o) 1 0) slots k (Some y) None (place_within slots k n h))
    (ap (λ (o : Option Numbered). cond (is_some o) 1 0) p.1)

-- ---- no name and no table

pub empty_heap : (bounds : Bounds) (slots : Slots) → bounds ≡ empty → slots ≡ []
    → IsHeap (record { bounds = bounds; slots = slots; next = 0 })
empty_heap bounds slots b s =
    rw (b, s) (record {
      sound = record {
        there = λ q. subst (IsThere []) (sym (get-empty (slice_cmp nat_cmp) q)) tt;
        apart = λ i j x y p q e. absurd (none_some p);
        fresh = λ i x e. absurd (none_some e);
      };
      named = λ k g. absurd (true≢false (sym g ∙ ap is_some (get-empty nat_cmp k)));
    })

pub empty_state_is : (bounds : Bounds) (slots : Slots) → bounds ≡ empty → slots ≡ []
    → state_in (record { bounds = bounds; slots = slots; next = 0 }) ≡ model.empty_state
empty_state_is bounds slots b s =
    let names : names_of bounds ≡ empty = ap names_of b ∙ names-empty in
    λ i. record { names = names i; tables = tables_of (s i); next = 0 }

-- to remove a name that is not bound changes nothing
pub removed_absent : (s : State) (q : List ℕ) → get s.names q ≡ None → removed s q ≡ s
removed_absent s q h =
    let names : remove s.names q ≡ s.names = remove_absent s.names q h in
    λ i. record { names = names i; tables = swept (remove s.names q) s.tables (h i); next = s.next }

-- ---- what a look and an Id find

-- what a name is bound to, plainly
pub looked_at : (b : Bounds) (q : List ℕ) (o : Option Bound) → o ≡ get b q → option_map plain_bound o
    ≡ get (names_of b) q
looked_at b q o e = ap (option_map plain_bound) e ∙ sym (get-names b q)

-- the table at the Id's place is the state's under its number
pub seen_table : (slots : Slots) (k n : ℕ) (x : Numbered) → IsApart slots → Some x ≡ slot_at slots k
    → HasNumber n (slot_at slots k) → get (tables_of slots) n ≡ Some (plain x.table)
seen_table slots k n x a e h =
    let same : x.number ≡ n = subst (HasNumber n) (sym e) h in
    ap (get (tables_of slots)) (sym same) ∙ get-there slots k x a (sym e)
