-- A key and indices that stay true when columns change.
use Rattle.std.proofs.Common.{◌≡◌, ◌+◌, ◌<◌, ◌≤◌, ℕ, true, false, List, [], ◌∷◌, ◌++◌, All, length, map, get_or}
use Rattle.std.proofs.Common.{slice_get, Option, Some, arith, refl, sym, ap, ◌∙◌, subst, inl, inr}
use Rattle.std.specs.List.{AllByRecursion, list_any}
use Rattle.std.specs.Ordering.{is_gt}
use Rattle.std.proofs.lemmas.Bool.{cases_Bool, not-true}
use Rattle.std.proofs.lemmas.List.{get_or_append_left, length-map, length-append}
use Rattle.std.proofs.lemmas.List.Elements.{All-from_recursion, recursion_from_All}
use Rattle.std.proofs.lemmas.Option.{slice_get-get_or}
use Rattle.dt_model.specs.Vector.{Vector}
use Rattle.order_model.specs.Order.{ascending, cells_in, rising, row_cmp}
use Rattle.order_model.specs.Places.{IsTrueKey, ordering}
use Rattle.order_model.proofs.Truth.{cut_step}
use Rattle.dt_table.specs.Change.{PartSeen, added_vectors, changed, changed_from, cut, goes, indices_changed, is_left}
use Rattle.dt_table.specs.Change.{is_named, kept, key_changed, moved, stays_before, vectors_changed}
use Rattle.dt_table.specs.Table.{HasTrueKey, IndexSeen, IsIndex}
use Rattle.dt_table.proofs.Changing.{changed_here, changed_length}
use Rattle.dt_table.proofs.Moving.{cut_all, cut_free, free_at, free_stays, kept_counts, kept_place, moved_columns}
use Rattle.dt_table.proofs.Moving.{none_named, place_less}

-- a key without columns is true
pub no_key_true : (rows : ℕ) (vectors : List Vector) (key : List ℕ) → key ≡ [] → HasTrueKey rows vectors key
no_key_true rows vectors key e = rw e (record { rises = λ p lt. refl })

-- ---- Columns that no part names

-- such a column's vector stands at its new place
vector_moved : (ps : List PartSeen) (vs added : List Vector) (c : ℕ) → is_named ps c ≡ false → c < length vs
    → slice_get (kept ps 0 (changed_from ps 0 vs) ++ added) (stays_before ps c) ≡ slice_get vs c
vector_moved ps vs added c free lt =
    let ws : List Vector = changed_from ps 0 vs in
    let long : length ws ≡ length vs = changed_length ps 0 vs in
    let stay : goes ps c ≡ false = free_stays ps c free in
    let less : stays_before ps c < stays_before ps (length ws) = place_less ps c (length ws) stay (omega arith) in
    let count : length (kept ps 0 ws) ≡ stays_before ps (length ws) = kept_counts ps ws in
    let d : Vector = get_or vs c (first vs lt) in
    let there : get_or (kept ps 0 ws ++ added) (stays_before ps c) d ≡ get_or vs c d =
    get_or_append_left (kept ps 0 ws) added d (stays_before ps c) (omega arith)
    ∙ (kept_place ps ws c d (omega arith) stay
    ∙ (changed_here ps c vs d lt ∙ ap (λ (o : Option PartSeen). changed o (get_or vs c d)) (free_at c ps free))) in
    slice_get-get_or (kept ps 0 ws ++ added) (stays_before ps c) d (omega (arith, length-append (kept ps 0 ws) added))
    ∙ (ap Some there ∙ sym (slice_get-get_or vs c d lt))
  where
    first : (xs : List Vector) {c : ℕ} → c < length xs → Vector
    first [] lt = absurd (omega arith)
    first (x ∷ xs) lt = x

-- so a list of them orders rows as it did
pub rising_moved : (ps : List PartSeen) (vs added : List Vector) (cols : List ℕ)
    → AllByRecursion (λ c. is_named ps c ≡ false) cols → AllByRecursion (λ c. c < length vs) cols
    → rising (kept ps 0 (changed_from ps 0 vs) ++ added) (map (stays_before ps) cols) ≡ rising vs cols
rising_moved ps vs added [] free range = refl
rising_moved ps vs added (c ∷ cols) free range =
    let here = vector_moved ps vs added c free.0 range.0 in
    let rest = rising_moved ps vs added cols free.1 range.1 in
    λ i. ascending (cells_in (here i)) ∷ rest i

-- ---- The key

-- a first part of a key lets no row stand above the next one
cut_rises : (ps : List PartSeen) (vs : List Vector) (key : List ℕ) (r s : ℕ) → is_gt (row_cmp (rising vs key) r s)
    ≡ false → is_gt (row_cmp (rising vs (cut ps key)) r s) ≡ false
cut_rises ps vs [] r s h = refl
cut_rises ps vs (c ∷ key) r s h =
    elim (cases_Bool (is_named ps c)) [
      | inl hit ↦ rw hit refl
      | inr miss ↦ rw miss (cut_step _ _ _ h (cut_rises ps vs key r s))
    ]

-- the key that is cut before the first column that a part names is true, for as many rows or fewer
pub key_stays_true : (ps : List PartSeen) (vs : List Vector) (key : List ℕ) (m n : ℕ) → m ≤ n
    → All (λ c. c < length vs) key → HasTrueKey n vs key → HasTrueKey m (vectors_changed ps vs) (key_changed ps key)
key_stays_true ps vs key m n le range h =
    let same : rising (vectors_changed ps vs) (key_changed ps key) ≡ rising vs (cut ps key) =
    rising_moved ps vs (added_vectors ps) (cut ps key) (cut_free ps key)
    (cut_all (λ c. c < length vs) ps key (recursion_from_All (λ c. c < length vs) key range)) in
    record {
      rises = subst (λ by. IsTrueKey by m) (sym same)
          (λ p lt. cut_rises ps vs key p (p + 1) (h.rises p (omega arith)));
    }

-- ---- The indices

index_moved : {X : Type 0} (ps : List PartSeen) (xs : List X) (vs : List Vector) (width m n : ℕ) (x : IndexSeen)
    → length vs ≡ length xs → length (kept ps 0 xs) ≤ width
    → ((c : ℕ) → c < length xs → is_named ps c ≡ false → m ≡ n) → is_left ps x ≡ true → IsIndex (length xs) n vs x
    → IsIndex width m (vectors_changed ps vs) (moved ps x)
index_moved ps xs vs width m n x each le rows e h =
    let free : AllByRecursion (λ c. is_named ps c ≡ false) x.cols = none_named ps x.cols
    (not-true (list_any (is_named ps) x.cols) e) in
    let range : AllByRecursion (λ c. c < length xs) x.cols = recursion_from_All (λ c. c < length xs) x.cols
    h.cols.in_range in
    let same : rising (vectors_changed ps vs) (map (stays_before ps) x.cols) ≡ rising vs x.cols =
    rising_moved ps vs (added_vectors ps) x.cols free (rw each range) in
    let kept_rows : m ≡ n = one_stays x.cols h.some free range in
    record {
      cols = moved_columns ps xs width x.cols le free h.cols;
      some = (let s = h.some in omega (arith, length-map x.cols (stays_before ps)));
      order = h.order ∙ (λ i. ordering (sym same i) (sym kept_rows i));
    }
  where
    one_stays : (cs : List ℕ) → 0 < length cs → AllByRecursion (λ c. is_named ps c ≡ false) cs
        → AllByRecursion (λ c. c < length xs) cs → m ≡ n
    one_stays [] s free range = absurd (omega arith)
    one_stays (c ∷ cs) s free range = rows c range.0 free.0

indices_moved : {X : Type 0} (ps : List PartSeen) (xs : List X) (vs : List Vector) (width m n : ℕ)
    (is : List IndexSeen) → length vs ≡ length xs → length (kept ps 0 xs) ≤ width
    → ((c : ℕ) → c < length xs → is_named ps c ≡ false → m ≡ n) → AllByRecursion (IsIndex (length xs) n vs) is
    → AllByRecursion (IsIndex width m (vectors_changed ps vs)) (indices_changed ps is)
indices_moved ps xs vs width m n [] each le rows h = tt
indices_moved ps xs vs width m n (x ∷ is) each le rows h =
    elim (cases_Bool (is_left ps x)) [
      | inl hit ↦ rw hit (
        index_moved ps xs vs width m n x each le rows hit h.0,
        indices_moved ps xs vs width m n is
            each le rows h.1,
      )
      | inr miss ↦ rw miss (indices_moved ps xs vs width m n is each le rows h.1)
    ]

-- the indices of which no part names a column have the orders of their columns, where a table that keeps
-- a column keeps its rows
pub indices_stay_true : {X : Type 0} (ps : List PartSeen) (xs : List X) (vs : List Vector) (width m n : ℕ)
    (is : List IndexSeen) → length vs ≡ length xs → length (kept ps 0 xs) ≤ width
    → ((c : ℕ) → c < length xs → is_named ps c ≡ false → m ≡ n) → All (IsIndex (length xs) n vs) is
    → All (IsIndex width m (vectors_changed ps vs)) (indices_changed ps is)
indices_stay_true {X = X} ps xs vs width m n is each le rows h =
    All-from_recursion (IsIndex width m (vectors_changed ps vs)) (indices_changed ps is)
    (indices_moved ps xs vs width m n is each le rows (recursion_from_All (IsIndex (length xs) n vs) is h))
