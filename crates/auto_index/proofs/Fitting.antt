-- An index of one column fits a table where neither its key nor an index begins with the column.
use Rattle.std.proofs.Common.{◌≡◌, ◌∙◌, ◌<◌, ◌==◌, ℕ, zero, suc, true, false, List, [], ◌∷◌, length, map, get_or, arith}
use Rattle.std.proofs.Common.{sym, ap, subst, Option, None, Some, Result, Ok, Err, IfOk}
use Rattle.std.specs.List.{IsDistinct, list_any}
use Rattle.std.proofs.lemmas.Bool.{or_parts}
use Rattle.std.proofs.lemmas.Bool.Decides.{nat_tests}
use Rattle.std.proofs.lemmas.List.Elements.{All-from_recursion}
use Rattle.std.proofs.lemmas.Map.Keys.{IsDistinct-cons}
use Rattle.auto_index.specs.Added.{FitsWith, IsFree, IsOf, altered_with}
use Rattle.dt_table.specs.Table.{HasIndex, IndexSeen, IsColumnList, IsIndex, IsTable, TableSeen}
use Rattle.keys_index.proofs.Probing.{begins_named}
use Rattle.keys_index.specs.Probes.{leads}
use Rattle.na_vector.specs.Frame.{vectors_of}
use Rattle.stmt_change.specs.Places.{table_at}
use Rattle.stmt_change.specs.declared.change.Altered.{Altered}
use Rattle.stmt_value.specs.Values.{IsAlteredIn, IsOwn}
use Rattle.stmt_value.specs.declared.given.Value.{Value}
use Rattle.table_heap.specs.Altered.{FitsNewIndex, FitsParts}
use Rattle.table_heap.specs.Seen.{HeapSeen, IsAt}
use Rattle.table_heap.specs.declared.bound.Id.{Id}

-- ---- Its columns

none_distinct : IsDistinct (λ (a b : ℕ). a == b) []
unfolding IsDistinct
none_distinct = tt

pub one_column : (width c : ℕ) → c < width → IsColumnList width (c ∷ [])
one_column width c lt = record {
  in_range = All-from_recursion (λ d. d < width) (c ∷ []) (lt, tt);
  distinct = IsDistinct-cons (λ (a b : ℕ). a == b) c [] tt none_distinct;
}

-- no index has just this column
none_led : (c : ℕ) (xs : List IndexSeen) (k : ℕ) → list_any (λ x. leads c x.cols) xs ≡ false
    → k < length (map (λ x. x.cols) xs) → get_or (map (λ x. x.cols) xs) k (c ∷ []) ≡ c ∷ [] → ⊥
none_led c [] k e lt at = absurd (omega arith)
none_led c (x ∷ xs) zero e lt at =
    let miss : leads c x.cols ≡ false = (or_parts (leads c x.cols) (list_any (λ y. leads c y.cols) xs) e).0 in
    let one : (c == c) ≡ true = grind (arith, nat_tests) in
    let hit : leads c x.cols ≡ true = ap (leads c) at ∙ one in
    (let bad : true ≡ false = sym hit ∙ miss in cc)
none_led c (x ∷ xs) (suc k) e lt at =
    none_led c xs k (or_parts (leads c x.cols) (list_any (λ y. leads c y.cols) xs) e).1 (omega arith) at

pub no_other : (t : TableSeen) (c : ℕ) → IsTable t → IsFree t c → HasIndex (c ∷ []) t.indices → ⊥
no_other t c h free has =
    let none = sym (begins_named t c h free.within) ∙ free.free in
    none_led c t.indices has.0 (or_parts (leads c t.key) (list_any (λ x. leads c x.cols) t.indices) none).1 has.1 has.2

pub fits_new : {E : Type 0} (t : TableSeen) (c : ℕ) (r : Result IndexSeen E) → IsTable t → IsFree t c
    → IfOk r (IsIndex (length t.names) t.frame.rows (vectors_of t.frame.columns)) → IfOk r (λ x. x.cols ≡ c ∷ [])
    → IfOk r (FitsNewIndex t)
fits_new t c (Err e) h free is cols = tt
fits_new t c (Ok x) h free is cols = record {
  index = is;
  once = λ has. no_other t c h free (subst (λ (l : List ℕ). HasIndex l t.indices) cols has);
}

-- ---- What is altered

pub fits_of : (h : HeapSeen) (v : Value) (a : Option Altered) → IsAlteredIn h v a → FitsWith h a
fits_of h v None fits = tt
fits_of h v (Some a) fits = fits.1

pub fits_with : (h : HeapSeen) (v : Value) (id : Id) (x : IndexSeen) (a : Option Altered) → IsAt h id
    → FitsNewIndex (table_at h id) x → IsAlteredIn h v a → IsOf id a → IsAlteredIn h v (Some (altered_with id x a))
fits_with h v id x None at fits old same = (tt, (at, record { index = fits; parts = tt }))
fits_with h v id x (Some a) at fits old same =
    let P : Id → Type 0 = λ k. IsOwn v k a.parts × FitsParts (table_at h k) a.parts in
    let both = subst P same (old.0, old.1.1.parts) in
    (both.0, (at, record { index = fits; parts = both.1 }))
