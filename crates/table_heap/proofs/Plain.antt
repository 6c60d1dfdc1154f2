-- The plain reading of names: what it has at each name, and what one change does.
use Rattle.std.proofs.Common.{◌≡◌, ℕ, List, [], ◌∷◌, map, Bool, true, false, cond, T, Option, Some, None, refl, sym}
use Rattle.std.proofs.Common.{ap, subst, ◌∙◌, ◌||◌, ◌&&◌, String, Global}
use Rattle.std.specs.Option.{option_map}
use Rattle.std.specs.Ordering.{nat_cmp, eq_by_cmp, is_eq, is_lt}
use Rattle.std.specs.Cmp.Lexicographic.{slice_cmp, nat_list_cmp_total}
use Rattle.std.specs.FinMap.{find, is_sorted, get, insert, remove, empty, entries, entries_sorted, from_entries}
use Rattle.std.specs.FinMap.{from_sorted, get-entries, get-from_entries, get-from_sorted, entries-from_sorted}
use Rattle.std.specs.FinMap.{get_tied, get-insert, get-remove, same_map, slice_cmp-IsAntisymmetric}
use Rattle.std.specs.FinMap.{nat_cmp-IsAntisymmetric}
use Rattle.std.specs.FinMap.Entries.{below_all}
use Rattle.std.specs.declared.cmp.Ordering.TheVariants.{Less, Equal, Greater}
use Rattle.std.specs.Map.{keys_of, values_of}
use Rattle.std.specs.List.{list_any, IsDistinct}
use Rattle.std.specs.String.{string_eq}
use Rattle.dt_model.specs.State as model
use Rattle.table_heap.specs.declared.bound.Bound.{Bound}
use Rattle.table_heap.specs.Seen.{Bounds}
use Rattle.table_heap.specs.Names.{bounds_of}
use Rattle.table_heap.specs.State.{plain_bound, plain_entry, names_of}
use Rattle.table_heap.proofs.Bounds.{any-bounds, no_entries}

map-cond : (c : Bool) (x : Bound) (o : Option Bound) → option_map plain_bound (cond c (Some x) o)
    ≡ cond c (Some (plain_bound x)) (option_map plain_bound o)
map-cond true x o = refl
map-cond false x o = refl

map-cond_none : (c : Bool) (o : Option Bound) → option_map plain_bound (cond c None o)
    ≡ cond c None (option_map plain_bound o)
map-cond_none true o = refl
map-cond_none false o = refl

find-plain : (q : List ℕ) (es : List (List ℕ × Bound)) → find (slice_cmp nat_cmp) q (map plain_entry es)
    ≡ option_map plain_bound (find (slice_cmp nat_cmp) q es)
find-plain q [] = refl
find-plain q (e ∷ es) =
    ap (cond (eq_by_cmp (slice_cmp nat_cmp) q e.0) (Some (plain_bound e.1))) (find-plain q es)
    ∙ sym (map-cond (eq_by_cmp (slice_cmp nat_cmp) q e.0) e.1 (find (slice_cmp nat_cmp) q es))

-- a name has plainly what it is bound to
pub get-names : (b : Bounds) (q : List ℕ) → get (names_of b) q ≡ option_map plain_bound (get b q)
get-names b q = get-from_entries nat_list_cmp_total _ q ∙ find-plain q (entries b)
    ∙ ap (option_map plain_bound) (sym (get-entries b q))

same_names : (m n : model.Names) → ((q : List ℕ) → get m q ≡ get n q) → m ≡ n
same_names m n h = same_map nat_list_cmp_total (slice_cmp-IsAntisymmetric nat_cmp-IsAntisymmetric) m n h

pub names-insert : (b : Bounds) (p : List ℕ) (x : Bound) → names_of (insert b p x)
    ≡ insert (names_of b) p (plain_bound x)
names-insert b p x =
    same_names _ _ (λ q.
    get-names (insert b p x) q
    ∙ ap (option_map plain_bound) (get-insert nat_list_cmp_total b p x q)
    ∙ map-cond (eq_by_cmp (slice_cmp nat_cmp) q p) x (get b q)
    ∙ ap (cond (eq_by_cmp (slice_cmp nat_cmp) q p) (Some (plain_bound x))) (sym (get-names b q))
    ∙ sym (get-insert nat_list_cmp_total (names_of b) p (plain_bound x) q))

pub names-remove : (b : Bounds) (p : List ℕ) → names_of (remove b p) ≡ remove (names_of b) p
names-remove b p =
    same_names _ _ (λ q.
    get-names (remove b p) q
    ∙ ap (option_map plain_bound) (get-remove nat_list_cmp_total b p q)
    ∙ map-cond_none (eq_by_cmp (slice_cmp nat_cmp) q p) (get b q)
    ∙ ap (cond (eq_by_cmp (slice_cmp nat_cmp) q p) None) (sym (get-names b q))
    ∙ sym (get-remove nat_list_cmp_total (names_of b) p q))

pub names-empty : names_of empty ≡ empty
names-empty = ap (λ es. from_entries (map plain_entry es)) no_entries

-- to remove what is not there changes nothing
pub remove_absent : (m : model.Names) (p : List ℕ) → get m p ≡ None → remove m p ≡ m
remove_absent m p h =
    same_names _ _ (λ q.
    get-remove nat_list_cmp_total m p q
    ∙ (elim (slice_cmp nat_cmp q p) as (λ r. slice_cmp nat_cmp q p ≡ r → cond (is_eq r) None (get m q) ≡ get m q) [
      | Less ↦ λ t. refl
      | Equal ↦ λ t. sym (sym (get_tied nat_list_cmp_total m q p t) ∙ h)
      | Greater ↦ λ t. refl
    ]) refl)

-- ---- whether a table has a name

below_all-plain : (x : List ℕ) (es : List (List ℕ × Bound)) → below_all (slice_cmp nat_cmp) x (map plain_entry es)
    ≡ below_all (slice_cmp nat_cmp) x es
below_all-plain x [] = refl
below_all-plain x (e ∷ es) = ap (λ b. is_lt (slice_cmp nat_cmp x e.0) && b) (below_all-plain x es)

is_sorted-plain : (es : List (List ℕ × Bound)) → is_sorted (slice_cmp nat_cmp) (map plain_entry es)
    ≡ is_sorted (slice_cmp nat_cmp) es
is_sorted-plain [] = refl
is_sorted-plain (e ∷ es) = rw (below_all-plain e.0 es, is_sorted-plain es) refl

entries-names : (b : Bounds) → entries (names_of b) ≡ map plain_entry (entries b)
entries-names b =
    let sorted : T (is_sorted (slice_cmp nat_cmp) (map plain_entry (entries b))) = subst T
    (sym (is_sorted-plain (entries b))) (entries_sorted b) in
    ap entries (same_names (names_of b) (from_sorted (map plain_entry (entries b)))
    (λ q. get-from_entries nat_list_cmp_total _ q ∙ sym (get-from_sorted (slice_cmp nat_cmp) _ q sorted)))
    ∙ entries-from_sorted (slice_cmp nat_cmp) _ sorted

any-plain : (k : ℕ) (es : List (List ℕ × Bound)) → list_any (λ e. model.is_table k e.1) (map plain_entry es)
    ≡ list_any (λ e. model.is_table k (plain_bound e.1)) es
any-plain k [] = refl
any-plain k (e ∷ es) = ap (λ b. model.is_table k (plain_bound e.1) || b) (any-plain k es)

-- a scan of the code's map tells whether the table has a name
pub scan_has_name : (k : ℕ) (es : List (String Global × Bound)) → IsDistinct string_eq (keys_of es)
    → model.has_name (names_of (bounds_of es)) k ≡ list_any (λ v. model.is_table k (plain_bound v)) (values_of es)
scan_has_name k es d =
    ap (list_any (λ e. model.is_table k e.1)) (entries-names (bounds_of es))
    ∙ any-plain k (entries (bounds_of es))
    ∙ any-bounds (λ v. model.is_table k (plain_bound v)) es d
