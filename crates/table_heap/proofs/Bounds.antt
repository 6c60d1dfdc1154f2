-- The map of names: what a look-up by text finds, and what one change does.
use Rattle.std.proofs.Common.{◌≡◌, ℕ, List, [], ◌∷◌, map, Bool, true, false, cond, Option, Some, None, refl, sym, ap}
use Rattle.std.proofs.Common.{◌∙◌, string_bytes, String, Global, ◌||◌, length, arith}
use Rattle.std.specs.Ordering.{nat_cmp, eq_by_cmp, is_eq}
use Rattle.std.specs.Cmp.Lexicographic.{slice_cmp, texts_ties, nat_list_cmp_total, bytes_decides}
use Rattle.std.specs.FinMap.{find, put, get, insert, remove, entries, empty, len-entries, len-empty, get-entries}
use Rattle.std.specs.FinMap.{get-from_entries, get-insert, get-remove, entries-insert, same_map}
use Rattle.std.specs.FinMap.{slice_cmp-IsAntisymmetric, nat_cmp-IsAntisymmetric}
use Rattle.std.specs.FinMap.Entries.{by_order}
use Rattle.std.specs.Map.{lookup, IsKeyTest, AreApart, KeepsOthers, keys_of, values_of}
use Rattle.std.specs.List.{list_any, IsDistinct, AllByRecursion}
use Rattle.std.proofs.lemmas.Map.Keys.{IsDistinct-head, IsDistinct-tail}
use Rattle.std.specs.declared.cmp.Ordering.TheVariants.{Less, Equal, Greater}
use Rattle.std.specs.HashMap.{HashMap, UpdatesBy}
use Rattle.std.specs.Str.{bytes_eq}
use Rattle.std.specs.String.{string_eq}
use Rattle.table_heap.specs.declared.bound.Bound.{Bound}
use Rattle.table_heap.specs.Seen.{Bounds}
use Rattle.table_heap.specs.Names.{shown, bounds_of}

-- the keys whose bytes are q
abbrev pub named : List ℕ → String Global → Bool
named q k = bytes_eq q (string_bytes k)

find-shown : (es : List (String Global × Bound)) (q : List ℕ) → lookup (named q) es
    ≡ find (slice_cmp nat_cmp) q (map shown es)
find-shown [] q = refl
find-shown (e ∷ es) q =
    rw (find-shown es q) (ap (λ b. cond b (Some e.1) (find (slice_cmp nat_cmp) q (map shown es)))
    (texts_ties q (string_bytes e.0)))

-- a look-up by text finds what the finite map has
pub lookup-bounds : (es : List (String Global × Bound)) (q : List ℕ) → lookup (named q) es ≡ get (bounds_of es) q
lookup-bounds es q = find-shown es q ∙ sym (get-from_entries nat_list_cmp_total _ q)

key_test : (q : List ℕ) → IsKeyTest string_eq (named q)
key_test q x y e = let same : q ≡ string_bytes x = (bytes_decides q (string_bytes x)).0 e in rw same refl

apart : (p q : List ℕ) → bytes_eq q p ≡ false → AreApart (named p) (named q)
apart p q h k e = let same : p ≡ string_bytes k = (bytes_decides p (string_bytes k)).0 e in rw (← same) h

module _ {S : Type 0} (p : List ℕ) (m n : HashMap (String Global) Bound S) (w : Option Bound) where
  others : UpdatesBy string_eq (named p) m n w → (q : List ℕ) → AreApart (named p) (named q)
      → lookup (named q) n.entries ≡ lookup (named q) m.entries
  unfolding KeepsOthers
  others u q a = u.3 (named q) (key_test q) a

  -- what a change at one name does to a look-up by text
  lookup-updated : UpdatesBy string_eq (named p) m n w → (q : List ℕ) → lookup (named q) n.entries
      ≡ cond (bytes_eq q p) w (lookup (named q) m.entries)
  lookup-updated u q =
      (elim (bytes_eq q p) as (λ b. bytes_eq q p ≡ b → lookup (named q) n.entries
      ≡ cond b w (lookup (named q) m.entries)) [
        | true ↦ λ h. let same : q ≡ p = (bytes_decides q p).0 h in rw same u.1
        | false ↦ λ h. others u q (apart p q h)
      ]) refl

  -- and to the finite map
  get-updated : UpdatesBy string_eq (named p) m n w → (q : List ℕ) → get (bounds_of n.entries) q
      ≡ cond (eq_by_cmp (slice_cmp nat_cmp) q p) w (get (bounds_of m.entries) q)
  get-updated u q =
      sym (lookup-bounds n.entries q)
      ∙ lookup-updated u q
      ∙ ap (λ b. cond b w (lookup (named q) m.entries)) (texts_ties q p)
      ∙ ap (cond (eq_by_cmp (slice_cmp nat_cmp) q p) w) (lookup-bounds m.entries q)

same_bounds : (m n : Bounds) → ((q : List ℕ) → get m q ≡ get n q) → m ≡ n
same_bounds m n h = same_map nat_list_cmp_total (slice_cmp-IsAntisymmetric nat_cmp-IsAntisymmetric) m n h

module _ {S : Type 0} (p : List ℕ) (m n : HashMap (String Global) Bound S) where
  pub bounds-inserted : (v : Bound) → UpdatesBy string_eq (named p) m n (Some v) → bounds_of n.entries
      ≡ insert (bounds_of m.entries) p v
  bounds-inserted v u = same_bounds _ _ (λ q. get-updated p m n (Some v) u q
      ∙ sym (get-insert nat_list_cmp_total (bounds_of m.entries) p v q))

  pub bounds-removed : UpdatesBy string_eq (named p) m n None → bounds_of n.entries ≡ remove (bounds_of m.entries) p
  bounds-removed u = same_bounds _ _ (λ q. get-updated p m n None u q
      ∙ sym (get-remove nat_list_cmp_total (bounds_of m.entries) p q))

-- ---- a test of all values

or_swap : (a b c : Bool) → (a || (b || c)) ≡ (b || (a || c))
or_swap true true c = refl
or_swap true false c = refl
or_swap false true c = refl
or_swap false false c = refl

any-put : (test : Bound → Bool) (q : List ℕ) (v : Bound) (es : List (List ℕ × Bound)) → find (slice_cmp nat_cmp) q es
    ≡ None → list_any (λ e. test e.1) (put (slice_cmp nat_cmp) q v es) ≡ (test v || list_any (λ e. test e.1) es)
any-put test q v [] h = refl
any-put test q v (e ∷ es) h =
    (elim (slice_cmp nat_cmp q e.0) as (λ r. cond (is_eq r) (Some e.1) (find (slice_cmp nat_cmp) q es) ≡ None
    → list_any (λ e. test e.1) (by_order r ((q, v) ∷ e ∷ es) ((e.0, v) ∷ es) (e ∷ put (slice_cmp nat_cmp) q v es))
    ≡ (test v || (test e.1 || list_any (λ e. test e.1) es))) [
      | Less ↦ λ g. refl
      | Equal ↦ λ g. cc
      | Greater ↦ λ g. ap (λ b. test e.1 || b) (any-put test q v es g)
          ∙ or_swap (test e.1) (test v) (list_any (λ e. test e.1) es)
    ]) h

absent : (k : String Global) (es : List (String Global × Bound))
    → AllByRecursion (λ y. string_eq k y ≡ false) (keys_of es)
    → find (slice_cmp nat_cmp) (string_bytes k) (map shown es) ≡ None
absent k [] h = refl
absent k (e ∷ es) h = rw (sym (texts_ties (string_bytes k) (string_bytes e.0)), h.0) (absent k es h.1)

pub nothing : {A : Type 0} (es : List A) → length es ≡ 0 → es ≡ []
nothing [] h = refl
nothing (e ∷ es) h = absurd (omega arith)

pub no_entries : entries (empty {X = Bound} {R = slice_cmp nat_cmp}) ≡ []
no_entries = nothing _ (sym (len-entries _) ∙ len-empty (slice_cmp nat_cmp) Bound)

-- a test passes on a value of the code's map where it does on one of the finite map
pub any-bounds : (test : Bound → Bool) (es : List (String Global × Bound)) → IsDistinct string_eq (keys_of es)
    → list_any (λ e. test e.1) (entries (bounds_of es)) ≡ list_any test (values_of es)
any-bounds test [] d = ap (list_any (λ e. test e.1)) no_entries
any-bounds test (e ∷ es) d =
    ap (list_any (λ e. test e.1)) (entries-insert nat_list_cmp_total (bounds_of es) (string_bytes e.0) e.1)
    ∙ any-put test (string_bytes e.0) e.1 (entries (bounds_of es))
    (sym (get-entries _ _) ∙ get-from_entries nat_list_cmp_total _ _
    ∙ absent e.0 es (IsDistinct-head string_eq e.0 (keys_of es) d))
    ∙ ap (λ b. test e.1 || b) (any-bounds test es (IsDistinct-tail string_eq e.0 (keys_of es) d))
