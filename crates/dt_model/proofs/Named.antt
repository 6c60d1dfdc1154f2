use Rattle.std.proofs.Common.{◌≡◌, ◌⊎◌, ℕ, List, [], ◌∷◌, Bool, true, false, cond, T, Option, Some, None, IsSome}
use Rattle.std.proofs.Common.{is_some, refl, sym, ap, subst, ◌∙◌, true≢false, ◌||◌, ◌&&◌, inl, inr}
use Rattle.std.specs.List.{list_any}
use Rattle.std.specs.Ordering.{nat_cmp, eq_by_cmp, is_eq, is_lt}
use Rattle.std.specs.Cmp.{unsigned_ties}
use Rattle.std.specs.Cmp.Lexicographic.{slice_cmp, nat_list_cmp_total}
use Rattle.std.proofs.lemmas.Cmp.{nat_cmp_total, eq_by_cmp_equiv}
use Rattle.std.proofs.lemmas.Bool.{eqb-true}
use Rattle.std.specs.FinMap.{find, is_sorted, get, insert, remove, entries, entries_sorted, get-entries, get-insert}
use Rattle.std.specs.FinMap.{get-remove, slice_cmp-IsAntisymmetric, nat_cmp-IsAntisymmetric, same_map}
use Rattle.std.specs.FinMap.Entries.{below_all}
use Rattle.std.specs.declared.cmp.Ordering.{Ordering}
use Rattle.std.specs.declared.cmp.Ordering.TheVariants.{Less, Equal, Greater}
use Rattle.dt_model.specs.Table.{PlainTable}
use Rattle.dt_model.specs.State.{Bound, Table, Vector, Names, Tables, State, IsNamed, is_table, has_name, swept}
use Rattle.dt_model.specs.State.{bound_to, removed, bound_new, added}
use Rattle.dt_model.proofs.States.{named_by}

-- a name that is bound to the table
abbrev pub Named : Names → ℕ → Type 0
Named names k = (q : List ℕ) × (b : Bound) × (get names q ≡ Some b) × (is_table k b ≡ true)

equal_of : (o : Ordering) → is_eq o ≡ true → o ≡ Equal
equal_of Less h = absurd (true≢false (sym h))
equal_of Equal h = refl
equal_of Greater h = absurd (true≢false (sym h))

same_of : (p q : List ℕ) → eq_by_cmp (slice_cmp nat_cmp) p q ≡ true → p ≡ q
same_of p q h = slice_cmp-IsAntisymmetric nat_cmp-IsAntisymmetric p q (equal_of _ h)

first : (a b : Bool) → T (a && b) → T a
first true b p = tt
first false b p = p

second : (a b : Bool) → T (a && b) → T b
second true b p = p
second false b p = absurd p

less_not : (o : Ordering) → is_eq o ≡ true → T (is_lt o) → ⊥
less_not Less h p = true≢false (sym h)
less_not Equal h p = p
less_not Greater h p = p

-- a key below all of a list is not among them
apart : (x q : List ℕ) (es : List (List ℕ × Bound)) (b : Bound) → T (below_all (slice_cmp nat_cmp) x es)
    → find (slice_cmp nat_cmp) q es ≡ Some b → q ≡ x → ⊥
apart x q [] b p h e = let n : None ≡ Some b = h in true≢false (sym (ap is_some n))
apart x q (f ∷ es) b p h e =
    (elim (eq_by_cmp (slice_cmp nat_cmp) q f.0) as (λ c. eq_by_cmp (slice_cmp nat_cmp) q f.0 ≡ c
    → cond c (Some f.1) (find (slice_cmp nat_cmp) q es) ≡ Some b → ⊥) [
      | true ↦ λ t g. less_not (slice_cmp nat_cmp x f.0) (ap (λ y. eq_by_cmp (slice_cmp nat_cmp) y f.0) (sym e) ∙ t)
          (first _ _ p)
      | false ↦ λ t g. apart x q es b (second _ _ p) g e
    ]) refl h

passed : (c : Bool) {A : Type 0} (x y : Option A) → (c ≡ true → ⊥) → cond c x y ≡ y
passed true x y n = absurd (n refl)
passed false x y n = refl

found : (k : ℕ) (es : List (List ℕ × Bound)) → T (is_sorted (slice_cmp nat_cmp) es)
    → list_any (λ e. is_table k e.1) es ≡ true → (q : List ℕ) × (b : Bound) × (find (slice_cmp nat_cmp) q es ≡ Some b)
    × (is_table k b ≡ true)
found k [] s h = absurd (true≢false (sym h))
found k (e ∷ es) s h =
    (elim (is_table k e.1) as (λ c. is_table k e.1 ≡ c → (c || list_any (λ f. is_table k f.1) es) ≡ true → (q : List ℕ)
    × (b : Bound) × (find (slice_cmp nat_cmp) q (e ∷ es) ≡ Some b) × (is_table k b ≡ true)) [
      | true ↦ λ t g. (
        e.0,
        e.1,
        ap (λ c. cond c (Some e.1) (find (slice_cmp nat_cmp) e.0 es))
            ((eq_by_cmp_equiv nat_list_cmp_total).refl e.0),
        t,
      )
      | false ↦ λ t g.
          let r = found k es (second _ _ s) g in (
            r.0,
            r.1,
            passed (eq_by_cmp (slice_cmp nat_cmp) r.0 e.0) (Some e.1) (find (slice_cmp nat_cmp) r.0 es)
                (λ c. apart e.0 r.0 es r.1 (first _ _ s) r.2 (same_of r.0 e.0 c)) ∙ r.2,
            r.3,
          )
    ]) refl h

name_of : (m : Names) (k : ℕ) → has_name m k ≡ true → Named m k
name_of m k h = let r = found k (entries m) (entries_sorted m) h in (r.0, r.1, get-entries m r.0 ∙ r.2, r.3)

some_under : {A : Type 0} (c : Bool) (o : Option A) → IsSome (cond c None o) → IsSome o
some_under true o h = absurd (true≢false (sym h))
some_under false o h = h

-- what is swept from the tables only makes them fewer
swept_some : (names : Names) (tables : Tables) (old : Option Bound) (k : ℕ) → IsSome (get (swept names tables old) k)
    → IsSome (get tables k)
swept_some names tables None k h = h
swept_some names tables (Some (Vector v)) k h = h
swept_some names tables (Some (Table id)) k h =
    (elim (has_name names id) as (λ c. IsSome (get (cond c tables (remove tables id)) k) → IsSome (get tables k)) [
      | true ↦ λ g. g
      | false ↦ λ g. some_under (eq_by_cmp nat_cmp k id) (get tables k)
          (sym (ap is_some (get-remove nat_cmp_total tables id k)) ∙ g)
    ]) h

gone : (tables : Tables) (j k : ℕ) → k ≡ j → IsSome (get (remove tables j) k) → ⊥
gone tables j k e h =
    let tied : eq_by_cmp nat_cmp k j ≡ true = ap (λ n. eq_by_cmp nat_cmp n j) e
    ∙ (eq_by_cmp_equiv nat_cmp_total).refl j in
    let none : get (remove tables j) k ≡ None = get-remove nat_cmp_total tables j k
    ∙ ap (λ c. cond c None (get tables k)) tied in
    true≢false (sym h ∙ ap is_some none)

-- the table that a name lost has another one, where it is still there
swept_named : (names : Names) (tables : Tables) (b : Bound) (k : ℕ) → is_table k b ≡ true
    → IsSome (get (swept names tables (Some b)) k) → has_name names k ≡ true
swept_named names tables (Vector v) k t h = absurd (true≢false (sym t))
swept_named names tables (Table id) k t h =
    let same : id ≡ k = eqb-true id k t in
    (elim (has_name names id) as (λ c. has_name names id ≡ c → IsSome (get (cond c tables (remove tables id)) k)
    → has_name names k ≡ true) [
      | true ↦ λ e g. subst (λ n. has_name names n ≡ true) same e
      | false ↦ λ e g. absurd (gone tables id k (sym same) g)
    ]) refl h

one_named : (names : Names) (tables : Tables) (more : Names) (q : List ℕ) (k : ℕ) (o : Option Bound)
    → ((p : List ℕ) → (eq_by_cmp (slice_cmp nat_cmp) p q ≡ false) → get more p ≡ get names p) → o ≡ get names q
    → IsSome (get (swept more tables o) k) → has_name names k ≡ true → has_name more k ≡ true
one_named names tables more q k o others is h n =
    let r = name_of names k n in
    (elim (eq_by_cmp (slice_cmp nat_cmp) r.0 q) as (λ c. eq_by_cmp (slice_cmp nat_cmp) r.0 q ≡ c
    → has_name more k ≡ true) [
      | true ↦ λ e.
          let at : o ≡ Some r.1 = is ∙ ap (get names) (sym (same_of r.0 q e)) ∙ r.2 in
          swept_named more tables r.1 k r.3 (subst (λ p. IsSome (get (swept more tables p) k)) at h)
      | false ↦ λ e. named_by more r.0 r.1 k (others r.0 e ∙ r.2) r.3
    ]) refl

under : {A : Type 0} (c : Bool) (x y : Option A) → c ≡ false → cond c x y ≡ y
under true x y h = absurd (true≢false h)
under false x y h = refl

pub bound_named : (s : State) (q : List ℕ) (b : Bound)
    → ((k : ℕ) → IsSome (get s.tables k) → (has_name s.names k ≡ true) ⊎ (is_table k b ≡ true))
    → IsNamed (bound_to s q b)
bound_named s q b all k h =
    (elim (all k (swept_some (insert s.names q b) s.tables (get s.names q) k h)) as (λ u. has_name
    (insert s.names q b) k ≡ true) [
      | inl n ↦ one_named s.names s.tables (insert s.names q b) q k (get s.names q)
          (λ p e. get-insert nat_list_cmp_total s.names q b p ∙ under _ (Some b) (get s.names p) e) refl h n
      | inr t ↦ named_by (insert s.names q b) q b k
          (get-insert nat_list_cmp_total s.names q b q
          ∙ ap (λ c. cond c (Some b) (get s.names q)) ((eq_by_cmp_equiv nat_list_cmp_total).refl q)) t
    ])

pub removed_named : (s : State) (q : List ℕ) → IsNamed s → IsNamed (removed s q)
removed_named s q all k h =
    one_named s.names s.tables (remove s.names q) q k (get s.names q)
    (λ p e. get-remove nat_list_cmp_total s.names q p ∙ under _ None (get s.names p) e) refl h
    (all k (swept_some (remove s.names q) s.tables (get s.names q) k h))

new_or_old : (s : State) (t : PlainTable) → IsNamed s → (k : ℕ) → IsSome (get (insert s.tables s.next t) k)
    → (has_name s.names k ≡ true) ⊎ (is_table k (Table s.next) ≡ true)
new_or_old s t all k h =
    (elim (eq_by_cmp nat_cmp k s.next) as (λ c. eq_by_cmp nat_cmp k s.next ≡ c
    → IsSome (cond c (Some t) (get s.tables k)) → (has_name s.names k ≡ true)
    ⊎ (is_table k (Table s.next) ≡ true)) [
      | true ↦ λ e g. inr (unsigned_ties s.next k ∙ (eq_by_cmp_equiv nat_cmp_total).symm s.next k ∙ e)
      | false ↦ λ e g. inl (all k g)
    ]) refl (sym (ap is_some (get-insert nat_cmp_total s.tables s.next t k)) ∙ h)

pub bound_new_named : (s : State) (q : List ℕ) (t : PlainTable) → IsNamed s → IsNamed (bound_new s q t)
bound_new_named s q t all = bound_named (added s t) q (Table s.next) (new_or_old s t all)

stays : (c : Bool) {A : Type 0} (v o : Option A) → (c ≡ true → v ≡ o) → cond c v o ≡ o
stays true v o h = h refl
stays false v o h = refl

-- to insert what is there changes nothing
pub insert_same : (m : Tables) (k : ℕ) (v : PlainTable) → get m k ≡ Some v → insert m k v ≡ m
insert_same m k v h =
    same_map nat_cmp_total nat_cmp-IsAntisymmetric (insert m k v) m
    (λ q. get-insert nat_cmp_total m k v q
    ∙ stays (eq_by_cmp nat_cmp q k) (Some v) (get m q)
    (λ e. sym (ap (get m) (eqb-true q k (unsigned_ties q k ∙ e)) ∙ h)))
