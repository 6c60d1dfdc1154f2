-- The places of the tables: where a number is found, and what a change of one place does.
use Rattle.std.proofs.Common.{◌≡◌, ◌≢◌, ◌⊎◌, ◌+◌, ◌<◌, ℕ, zero, suc, Bool, true, false, cond, [], ◌∷◌, length, Option}
use Rattle.std.proofs.Common.{Some, None, is_some, count_by, refl, sym, ap, ◌∙◌, true≢false, inl, inr, arith}
use Rattle.std.proofs.Common.{slice_set}
use Rattle.std.specs.Option.{option_map}
use Rattle.std.specs.Ordering.{nat_cmp, eq_by_cmp}
use Rattle.std.specs.Cmp.{unsigned_ties}
use Rattle.std.specs.FinMap.{find, get, insert, remove, len, len-empty, len-insert, get-from_entries, get-insert}
use Rattle.std.specs.FinMap.{get-remove, same_map, nat_cmp-IsAntisymmetric}
use Rattle.std.proofs.lemmas.Cmp.{nat_cmp_total, eq_by_cmp_equiv}
use Rattle.std.proofs.lemmas.Bool.{cases_eq, eqb-true}
use Rattle.std.proofs.lemmas.List.{get_or-set_same, get_or-set_other}
use Rattle.std.proofs.lemmas.List.Sums.{sum_by-cons}
use Rattle.dt_model.specs.Table.{PlainTable}
use Rattle.dt_model.specs.State.{Tables}
use Rattle.dt_table.specs.Plain.{plain}
use Rattle.table_heap.specs.declared.bound.Numbered.{Numbered}
use Rattle.table_heap.specs.Seen.{Slots, slot_at, HasNumber}
use Rattle.table_heap.specs.State.{numbered_tables, tables_of}
use Rattle.table_heap.specs.Heap.{IsApart}
use Rattle.table_heap.specs.Sweep.{SetsSlot}

pub none_some : {A : Type 0} {x : A} → None ≡ Some x → ⊥
none_some h = true≢false (sym (ap is_some h))

pub same_some : {A : Type 0} {x y : A} → Some x ≡ Some y → x ≡ y
same_some h = cc

pub passed : (c : Bool) {A : Type 0} (x y : Option A) → (c ≡ true → ⊥) → cond c x y ≡ y
passed true x y n = absurd (n refl)
passed false x y n = refl

pub hit : (c : Bool) {A : Type 0} (x y : Option A) → c ≡ true → cond c x y ≡ x
hit true x y h = refl
hit false x y h = absurd (true≢false (sym h))

pub same_number : (j k : ℕ) → eq_by_cmp nat_cmp j k ≡ true → j ≡ k
same_number j k e = eqb-true j k (unsigned_ties j k ∙ e)

ties_itself : (k : ℕ) → eq_by_cmp nat_cmp k k ≡ true
ties_itself k = (eq_by_cmp_equiv nat_cmp_total).refl k

pub ties : (j k : ℕ) → j ≡ k → eq_by_cmp nat_cmp j k ≡ true
ties j k e = ap (λ n. eq_by_cmp nat_cmp n k) e ∙ ties_itself k

-- ---- what a place has

-- a place with a number has a table
pub place_of : (n : ℕ) (o : Option Numbered) → HasNumber n o → (x : Numbered) × (o ≡ Some x) × (x.number ≡ n)
place_of n None h = absurd h
place_of n (Some x) h = (x, refl, h)

pub one_number : (m n : ℕ) (o : Option Numbered) → HasNumber m o → HasNumber n o → m ≡ n
one_number m n None h g = absurd h
one_number m n (Some x) h g = sym h ∙ g

pub place_within : (slots : Slots) (k n : ℕ) → HasNumber n (slot_at slots k) → k < length slots
place_within slots k n h = let p = place_of n (slot_at slots k) h in some_within slots k p.0 p.1
  where
    some_within : (slots : Slots) (k : ℕ) (x : Numbered) → slot_at slots k ≡ Some x → k < length slots
    some_within [] k x e = absurd (none_some e)
    some_within (o ∷ rest) zero x e = omega arith
    some_within (o ∷ rest) (suc k) x e = let more = some_within rest k x e in omega arith

-- ---- where a number is found

apart_rest : (o : Option Numbered) (rest : Slots) → IsApart (o ∷ rest) → IsApart rest
apart_rest o rest a i j x y p q e = let more : suc i ≡ suc j = a (suc i) (suc j) x y p q e in omega arith

find-there : (slots : Slots) (i : ℕ) (x : Numbered) → IsApart slots → slot_at slots i ≡ Some x
    → find nat_cmp x.number (numbered_tables slots) ≡ Some (plain x.table)
find-there [] i x a h = absurd (none_some h)
find-there (None ∷ rest) zero x a h = absurd (none_some h)
find-there (None ∷ rest) (suc i) x a h = find-there rest i x (apart_rest None rest a) h
find-there (Some y ∷ rest) zero x a h =
    let same : y ≡ x = same_some h in
    hit (eq_by_cmp nat_cmp x.number y.number) _ _ (ties x.number y.number (ap (λ z. z.number) (sym same)))
    ∙ ap (λ z. Some (plain z.table)) same
find-there (Some y ∷ rest) (suc i) x a h =
    passed (eq_by_cmp nat_cmp x.number y.number) _ _ (λ t. let first : zero
    ≡ suc i = a zero (suc i) y x refl h (sym (same_number x.number y.number t)) in omega arith)
    ∙ find-there rest i x (apart_rest (Some y) rest a) h

-- no place has the number
abbrev pub IsUnused : Slots → ℕ → Type 0
IsUnused slots k = (i : ℕ) (x : Numbered) → slot_at slots i ≡ Some x → x.number ≡ k → ⊥

find-unused : (slots : Slots) (k : ℕ) → IsUnused slots k → find nat_cmp k (numbered_tables slots) ≡ None
find-unused [] k n = refl
find-unused (None ∷ rest) k n = find-unused rest k (λ i x. n (suc i) x)
find-unused (Some y ∷ rest) k n =
    passed (eq_by_cmp nat_cmp k y.number) _ _ (λ t. n zero y refl (sym (same_number k y.number t)))
    ∙ find-unused rest k (λ i x. n (suc i) x)

-- a table that stands at a place is found under its number
pub get-there : (slots : Slots) (i : ℕ) (x : Numbered) → IsApart slots → slot_at slots i ≡ Some x
    → get (tables_of slots) x.number ≡ Some (plain x.table)
get-there slots i x a h = get-from_entries nat_cmp_total _ _ ∙ find-there slots i x a h

-- a number that no place has is not found
pub get-unused : (slots : Slots) (k : ℕ) → IsUnused slots k → get (tables_of slots) k ≡ None
get-unused slots k n = get-from_entries nat_cmp_total _ _ ∙ find-unused slots k n

abbrev Used : Slots → ℕ → Type 0
Used slots k = (i : ℕ) × (x : Numbered) × (slot_at slots i ≡ Some x) × (x.number ≡ k)

unused_more : (o : Option Numbered) (rest : Slots) (k : ℕ) → ((x : Numbered) → o ≡ Some x → x.number ≡ k → ⊥)
    → IsUnused rest k → IsUnused (o ∷ rest) k
unused_more o rest k here more zero x h e = here x h e
unused_more o rest k here more (suc i) x h e = more i x h e

used_or_not : (slots : Slots) (k : ℕ) → Used slots k ⊎ IsUnused slots k
used_or_not [] k = inr (λ i x h e. none_some h)
used_or_not (None ∷ rest) k =
    elim (used_or_not rest k) [
      | inl p ↦ inl (suc p.0, p.1, p.2, p.3)
      | inr n ↦ inr (unused_more None rest k (λ x h e. none_some h) n)
    ]
used_or_not (Some y ∷ rest) k =
    elim (cases_eq y.number k) [
      | inl e ↦ inl (zero, y, refl, e)
      | inr d ↦ elim (used_or_not rest k) [
        | inl p ↦ inl (suc p.0, p.1, p.2, p.3)
        | inr n ↦ inr (unused_more (Some y) rest k (λ x h e. d (ap (λ z. z.number) (same_some h) ∙ e)) n)
      ]
    ]

-- ---- as many tables as places that are filled

len-cons : (m : Tables) (k : ℕ) (t : PlainTable) → get m k ≡ None → len (insert m k t) ≡ len m + 1
len-cons m k t h = len-insert nat_cmp_total m k t ∙ ap (λ o. cond (is_some o) (len m) (len m + 1)) h

pub count_tables : (slots : Slots) → IsApart slots → len (tables_of slots) ≡ count_by is_some slots
count_tables [] a = len-empty nat_cmp PlainTable
count_tables (None ∷ rest) a =
    let more = count_tables rest (apart_rest None rest a) in
    let one = sum_by-cons (λ o. cond (is_some o) 1 0) None rest in
    omega arith
count_tables (Some y ∷ rest) a =
    let more = count_tables rest (apart_rest (Some y) rest a) in
    let one = sum_by-cons (λ o. cond (is_some o) 1 0) (Some y) rest in
    let new : get (tables_of rest) y.number ≡ None = get-unused rest y.number
    (λ i x h e. let first : zero ≡ suc i = a zero (suc i) y x refl h (sym e) in omega arith) in
    let count = len-cons (tables_of rest) y.number (plain y.table) new in
    omega arith

-- ---- a change of one place

-- The place `key` had table n or none, and has table n or none now; no other place has table n.
pub record SetsTable (old new : Slots) (key n : ℕ) (v : Option Numbered) : Type 0 where
  pub apart : IsApart old
  pub sets : SetsSlot old new key v
  pub was : (x : Numbered) → slot_at old key ≡ Some x → x.number ≡ n
  pub now : (x : Numbered) → v ≡ Some x → x.number ≡ n
  pub others : (i : ℕ) (x : Numbered) → i ≢ key → slot_at old i ≡ Some x → x.number ≡ n → ⊥

abbrev shown_table : Option Numbered → Option PlainTable
shown_table o = option_map (λ x. plain x.table) o

module _ (old new : Slots) (key n : ℕ) (v : Option Numbered) (s : SetsTable old new key n v) where
  at_key : (i : ℕ) (x : Numbered) → i ≡ key → slot_at new i ≡ Some x → x.number ≡ n
  at_key i x e h = s.now x (sym s.sets.changed ∙ ap (slot_at new) (sym e) ∙ h)

  before : (i : ℕ) (x : Numbered) → i ≢ key → slot_at new i ≡ Some x → slot_at old i ≡ Some x
  before i x d h = sym (s.sets.others i d) ∙ h

  pub apart-set : IsApart new
  apart-set i j x y p q e =
      elim (cases_eq i key) [
        | inl ik ↦ elim (cases_eq j key) [
          | inl jk ↦ ik ∙ sym jk
          | inr jd ↦ absurd (s.others j y jd (before j y jd q) (sym e ∙ at_key i x ik p))
        ]
        | inr id ↦ elim (cases_eq j key) [
          | inl jk ↦ absurd (s.others i x id (before i x id p) (e ∙ at_key j y jk q))
          | inr jd ↦ s.apart i j x y (before i x id p) (before j y jd q) e
        ]
      ]

  -- at the number n the tables have what the place has now
  get-at : get (tables_of new) n ≡ shown_table v
  get-at =
      (elim v as (λ w. v ≡ w → get (tables_of new) n ≡ shown_table w) [
        | None ↦ λ e. get-unused new n (λ i x h g.
            elim (cases_eq i key) [
              | inl ik ↦ none_some (sym e ∙ sym s.sets.changed ∙ ap (slot_at new) (sym ik) ∙ h)
              | inr id ↦ s.others i x id (before i x id h) g
            ])
        | Some x ↦ λ e. ap (get (tables_of new)) (sym (s.now x e)) ∙ get-there new key x apart-set (s.sets.changed ∙ e)
      ]) refl

  -- at any other number they have what they had
  get-off : (q : ℕ) → (q ≡ n → ⊥) → get (tables_of new) q ≡ get (tables_of old) q
  get-off q d =
      elim (used_or_not old q) [
        | inl p ↦
            let away : p.0 ≢ key = λ e. d (sym p.3 ∙ s.was p.1 (ap (slot_at old) (sym e) ∙ p.2)) in
            ap (get (tables_of new)) (sym p.3)
            ∙ get-there new p.0 p.1 apart-set (s.sets.others p.0 away ∙ p.2)
            ∙ sym (get-there old p.0 p.1 s.apart p.2)
            ∙ ap (get (tables_of old)) p.3
        | inr u ↦
            get-unused new q (λ i x h g.
            elim (cases_eq i key) [
              | inl ik ↦ d (sym g ∙ at_key i x ik h)
              | inr id ↦ u i x (before i x id h) g
            ])
            ∙ sym (get-unused old q u)
      ]

  get-set : (q : ℕ) → get (tables_of new) q ≡ cond (eq_by_cmp nat_cmp q n) (shown_table v) (get (tables_of old) q)
  get-set q =
      (elim (eq_by_cmp nat_cmp q n) as (λ c. eq_by_cmp nat_cmp q n ≡ c → get (tables_of new) q
      ≡ cond c (shown_table v) (get (tables_of old) q)) [
        | true ↦ λ t. ap (get (tables_of new)) (same_number q n t) ∙ get-at
        | false ↦ λ t. get-off q (λ e. true≢false (sym (ties q n e) ∙ t))
      ]) refl

same_tables : (m n : Tables) → ((q : ℕ) → get m q ≡ get n q) → m ≡ n
same_tables m n h = same_map nat_cmp_total nat_cmp-IsAntisymmetric m n h

module _ (old new : Slots) (key n : ℕ) where
  -- the place has table n now: the tables have it at n
  pub tables-put : (x : Numbered) → SetsTable old new key n (Some x) → tables_of new
      ≡ insert (tables_of old) n (plain x.table)
  tables-put x s = same_tables _ _ (λ q. get-set old new key n (Some x) s q
      ∙ sym (get-insert nat_cmp_total (tables_of old) n (plain x.table) q))

  -- the place is empty now: the tables have none at n
  pub tables-taken : SetsTable old new key n None → tables_of new ≡ remove (tables_of old) n
  tables-taken s = same_tables _ _ (λ q. get-set old new key n None s q
      ∙ sym (get-remove nat_cmp_total (tables_of old) n q))

-- ---- the three changes

-- a table under a number that no place has, at a place that was empty
pub sets-new : (old new : Slots) (key n : ℕ) (x : Numbered) → IsApart old → IsUnused old n → slot_at old key ≡ None
    → x.number ≡ n → SetsSlot old new key (Some x) → SetsTable old new key n (Some x)
sets-new old new key n x a u empty e s = record {
  apart = a;
  sets = s;
  was = λ y h. absurd (none_some (sym empty ∙ h));
  now = λ y h. ap (λ z. z.number) (sym (same_some h)) ∙ e;
  others = λ i y d h g. u i y h g;
}

-- a written place is the only one that changes
pub sets_slot : (slots : Slots) (key : ℕ) (v : Option Numbered) → key < length slots
    → SetsSlot slots (slice_set slots key v) key v
sets_slot slots key v lt = record {
  changed = get_or-set_same slots key v None lt;
  others = λ j d. get_or-set_other slots key j v None d;
}

-- another table in the place of table n, or none
pub sets-over : (slots : Slots) (key n : ℕ) (v : Option Numbered) → IsApart slots → HasNumber n (slot_at slots key)
    → ((x : Numbered) → v ≡ Some x → x.number ≡ n) → SetsTable slots (slice_set slots key v) key n v
sets-over slots key n v a h now =
    let p = place_of n (slot_at slots key) h in
    record {
      apart = a;
      sets = sets_slot slots key v (place_within slots key n h);
      was = λ x e. ap (λ z. z.number) (same_some (sym e ∙ p.1)) ∙ p.2;
      now = now;
      others = λ i x d e g. d (a i key x p.0 e p.1 (g ∙ sym p.2));
    }
