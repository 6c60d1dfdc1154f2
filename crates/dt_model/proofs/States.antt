use Rattle.std.proofs.Common.{◌≡◌, ◌≤◌, ◌+◌, ℕ, List, [], ◌∷◌, Bool, true, false, cond, Option, Some, None, IsSome}
use Rattle.std.proofs.Common.{is_some, refl, sym, ap, subst, ◌∙◌, true≢false, ◌||◌, arith}
use Rattle.std.specs.List.{list_any}
use Rattle.std.specs.Ordering.{nat_cmp, eq_by_cmp}
use Rattle.std.specs.Cmp.Lexicographic.{slice_cmp, nat_list_cmp_total}
use Rattle.std.specs.Cmp.{unsigned_ties}
use Rattle.std.proofs.lemmas.Bool.{eqb-true}
use Rattle.std.specs.FinMap.{find, get, insert, remove, entries, get-entries, get-empty, get-insert, get-remove}
use Rattle.std.proofs.lemmas.Cmp.{nat_cmp_total, eq_by_cmp_equiv}
use Rattle.dt_model.specs.Table.{PlainTable}
use Rattle.dt_model.specs.State.{Bound, Table, Vector, Names, Tables, State, IsState, IsLive, is_table, has_name, swept}
use Rattle.dt_model.specs.State.{bound_to, bound_new, removed, added, with_table, empty_state}

none_both : {A : Type 0} (b : Bool) {o : Option A} → o ≡ None → cond b None o ≡ None
none_both true h = refl
none_both false h = h

some_both : {A : Type 0} (b : Bool) (t : A) (o : Option A) → IsSome o → IsSome (cond b (Some t) o)
some_both true t o h = refl
some_both false t o h = h

new_only : {A : Type 0} (b : Bool) (t : A) {o : Option A} → (b ≡ true → ⊥) → o ≡ None → cond b (Some t) o ≡ None
new_only true t n h = absurd (n refl)
new_only false t n h = h

at_itself : {A : Type 0} (b : Bool) (t : A) (o : Option A) → b ≡ true → IsSome (cond b (Some t) o)
at_itself true t o h = refl
at_itself false t o h = absurd (true≢false (sym h))

same_number : (j k : ℕ) → eq_by_cmp nat_cmp j k ≡ true → j ≡ k
same_number j k e = eqb-true j k (unsigned_ties j k ∙ e)

differs : (j k : ℕ) → eq_by_cmp nat_cmp j k ≡ true → k + 1 ≤ j → ⊥
differs j k e le = let same : j ≡ k = same_number j k e in omega arith

taken : (s : State) (k j : ℕ) → IsState s → IsSome (get s.tables k) → eq_by_cmp nat_cmp j k ≡ true → s.next ≤ j → ⊥
taken s k j i h e le =
    let same : j ≡ k = same_number j k e in
    let none : get s.tables k ≡ None = ap (get s.tables) (sym same) ∙ i.fresh j le in
    true≢false (sym h ∙ ap is_some none)

any_true : (a b : Bool) → b ≡ true → (a || b) ≡ true
any_true true b h = refl
any_true false b h = h

true_any : (a b : Bool) → a ≡ true → (a || b) ≡ true
true_any true b h = refl
true_any false b h = absurd (true≢false (sym h))

found_any : (k : ℕ) (es : List (List ℕ × Bound)) (q : List ℕ) (b : Bound) → find (slice_cmp nat_cmp) q es ≡ Some b
    → is_table k b ≡ true → list_any (λ e. is_table k e.1) es ≡ true
found_any k [] q b h t = cc
found_any k (e ∷ es) q b h t =
    (elim (eq_by_cmp (slice_cmp nat_cmp) q e.0) as (λ c. cond c (Some e.1) (find (slice_cmp nat_cmp) q es) ≡ Some b
    → (is_table k e.1 || list_any (λ e. is_table k e.1) es) ≡ true) [
      | true ↦ λ g. let same : e.1 ≡ b = cc in true_any _ _ (ap (is_table k) same ∙ t)
      | false ↦ λ g. any_true _ _ (found_any k es q b g t)
    ]) h

pub named_by : (m : Names) (q : List ℕ) (b : Bound) (k : ℕ) → get m q ≡ Some b → is_table k b ≡ true
    → has_name m k ≡ true
named_by m q b k h t = found_any k (entries m) q b (sym (get-entries m q) ∙ h) t

-- a table with a name is not the one without
other : (names : Names) (tables : Tables) (j id : ℕ) (q : List ℕ) → get names q ≡ Some (Table id)
    → has_name names j ≡ false → IsSome (get tables id) → IsSome (cond (eq_by_cmp nat_cmp id j) None (get tables id))
other names tables j id q g e h =
    (elim (eq_by_cmp nat_cmp id j) as (λ b. eq_by_cmp nat_cmp id j ≡ b → IsSome (cond b None (get tables id))) [
      | true ↦ λ t. absurd (true≢false (sym (named_by names q (Table id) j g (unsigned_ties id j ∙ t)) ∙ e))
      | false ↦ λ t. h
    ]) refl

-- a table with a name is not swept
pub kept : (names : Names) (tables : Tables) (old : Option Bound) (q : List ℕ) (id : ℕ) → get names q ≡ Some (Table id)
    → IsSome (get tables id) → IsSome (get (swept names tables old) id)
kept names tables None q id g h = h
kept names tables (Some (Vector v)) q id g h = h
kept names tables (Some (Table j)) q id g h =
    (elim (has_name names j) as (λ b. has_name names j ≡ b → IsSome (get (cond b tables (remove tables j)) id)) [
      | true ↦ λ e. h
      | false ↦ λ e. rw (get-remove nat_cmp_total tables j id) (other names tables j id q g e h)
    ]) refl

-- what is not there stays so
pub still_none : (names : Names) (tables : Tables) (old : Option Bound) (k : ℕ) → get tables k ≡ None
    → get (swept names tables old) k ≡ None
still_none names tables None k h = h
still_none names tables (Some (Vector v)) k h = h
still_none names tables (Some (Table j)) k h =
    (elim (has_name names j) as (λ b. get (cond b tables (remove tables j)) k ≡ None) [
      | true ↦ h
      | false ↦ get-remove nat_cmp_total tables j k ∙ none_both (eq_by_cmp nat_cmp k j) h
    ])

-- each table that a map of names points to is there
abbrev pub AllLive : Names → Tables → Type 0
AllLive names tables = (q : List ℕ) (id : ℕ) → get names q ≡ Some (Table id) → IsSome (get tables id)

pub live_of : (s : State) → IsState s → AllLive s.names s.tables
live_of s i q id g = subst (IsLive s) g (i.live q)

live_from : (s : State) → AllLive s.names s.tables → (o : Option Bound) (q : List ℕ) → get s.names q ≡ o → IsLive s o
live_from s a None q g = tt
live_from s a (Some (Vector v)) q g = tt
live_from s a (Some (Table id)) q g = a q id g

is_state : (s : State) → AllLive s.names s.tables → ((k : ℕ) → s.next ≤ k → get s.tables k ≡ None) → IsState s
is_state s a f = record { live = λ q. live_from s a (get s.names q) q refl; fresh = f }

swept_live : (names : Names) (tables : Tables) (old : Option Bound) → AllLive names tables
    → AllLive names (swept names tables old)
swept_live names tables old a q id g = kept names tables old q id g (a q id g)

inserted_live : (names : Names) (tables : Tables) (p : List ℕ) (b : Bound) → AllLive names tables
    → ((id : ℕ) → b ≡ Table id → IsSome (get tables id)) → AllLive (insert names p b) tables
inserted_live names tables p b a new q id g =
    (elim (eq_by_cmp (slice_cmp nat_cmp) q p) as (λ c. cond c (Some b) (get names q) ≡ Some (Table id)
    → IsSome (get tables id)) [
      | true ↦ λ e. new id cc
      | false ↦ λ e. a q id e
    ]) (sym (get-insert nat_list_cmp_total names p b q) ∙ g)

removed_live : (names : Names) (tables : Tables) (p : List ℕ) → AllLive names tables → AllLive (remove names p) tables
removed_live names tables p a q id g =
    (elim (eq_by_cmp (slice_cmp nat_cmp) q p) as (λ c. cond c None (get names q) ≡ Some (Table id)
    → IsSome (get tables id)) [
      | true ↦ λ e. cc
      | false ↦ λ e. a q id e
    ]) (sym (get-remove nat_list_cmp_total names p q) ∙ g)

pub set_live : (names : Names) (tables : Tables) (k : ℕ) (t : PlainTable) → AllLive names tables
    → AllLive names (insert tables k t)
set_live names tables k t a q id g = rw (get-insert nat_cmp_total tables k t id)
    (some_both (eq_by_cmp nat_cmp id k) t (get tables id) (a q id g))

bound_live : (s : State) (b : Bound) → IsLive s (Some b) → (id : ℕ) → b ≡ Table id → IsSome (get s.tables id)
bound_live s b h id e = subst (λ c. IsLive s (Some c)) e h

pub bound_is_state : (s : State) (q : List ℕ) (b : Bound) → IsState s → IsLive s (Some b) → IsState (bound_to s q b)
bound_is_state s q b i h =
    is_state (bound_to s q b)
    (swept_live _ _ (get s.names q) (inserted_live s.names s.tables q b (live_of s i) (bound_live s b h)))
    (λ k le. still_none _ s.tables (get s.names q) k (i.fresh k le))

pub removed_is_state : (s : State) (q : List ℕ) → IsState s → IsState (removed s q)
removed_is_state s q i =
    is_state (removed s q)
    (swept_live _ _ (get s.names q) (removed_live s.names s.tables q (live_of s i)))
    (λ k le. still_none _ s.tables (get s.names q) k (i.fresh k le))

pub added_is_state : (s : State) (t : PlainTable) → IsState s → IsState (added s t)
added_is_state s t i =
    is_state (added s t)
    (set_live s.names s.tables s.next t (live_of s i))
    (λ k le. get-insert nat_cmp_total s.tables s.next t k
    ∙ new_only (eq_by_cmp nat_cmp k s.next) t (λ e. differs k s.next e le) (i.fresh k (omega arith)))

pub added_live : (s : State) (t : PlainTable) → IsLive (added s t) (Some (Table s.next))
added_live s t = rw (get-insert nat_cmp_total s.tables s.next t s.next)
    (at_itself (eq_by_cmp nat_cmp s.next s.next) t _ ((eq_by_cmp_equiv nat_cmp_total).refl s.next))

pub bound_new_is_state : (s : State) (q : List ℕ) (t : PlainTable) → IsState s → IsState (bound_new s q t)
bound_new_is_state s q t i = bound_is_state (added s t) q (Table s.next) (added_is_state s t i) (added_live s t)

pub with_is_state : (s : State) (k : ℕ) (t : PlainTable) → IsState s → IsSome (get s.tables k)
    → IsState (with_table s k t)
with_is_state s k t i h =
    is_state (with_table s k t)
    (set_live s.names s.tables k t (live_of s i))
    (λ j le. get-insert nat_cmp_total s.tables k t j
    ∙ new_only (eq_by_cmp nat_cmp j k) t (λ e. taken s k j i h e le) (i.fresh j le))

pub empty_is_state : IsState empty_state
empty_is_state =
    is_state empty_state
    (λ q id g. let e : None ≡ Some (Table id) = sym (get-empty (slice_cmp nat_cmp) q) ∙ g in cc)
    (λ k le. get-empty nat_cmp k)

pub taken_is_state : (s : State) (q : List ℕ) (o : Option Bound) → get s.names q ≡ o → IsState s
    → IsState (record s { names = remove s.names q; tables = swept (remove s.names q) s.tables o })
taken_is_state s q o h i = subst (λ p. IsState
    (record s { names = remove s.names q; tables = swept (remove s.names q) s.tables p })) h (removed_is_state s q i)

pub removed_seen : (s : State) (q : List ℕ) (o : Option Bound) (names : Names) (tables : Tables)
    → names ≡ remove s.names q → tables ≡ swept names s.tables o → o ≡ get s.names q → IsState s
    → IsState (record s { names = names; tables = tables })
removed_seen s q o names tables n t h i = rw (t, n) (taken_is_state s q o (sym h) i)
