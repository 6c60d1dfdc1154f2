-- Names: a set of them, the least number that makes one new, and one name after the other.
use Rattle.std.proofs.Common.{◌≡◌, ◌<◌, ◌≤◌, ◌+◌, ◌^◌, ◌++◌, ◌||◌, ℕ, zero, suc, List, [], ◌∷◌, Bool, true, false, not}
use Rattle.std.proofs.Common.{cond, map, length, unwrap_or, Option, Some, inl, inr, refl, sym, ap, subst, ◌∙◌, arith}
use Rattle.std.proofs.Common.{length-append, true≢false, decimal}
use Rattle.std.specs.List.{list_any, range_with_len, IsDistinct}
use Rattle.std.specs.Str.{bytes_eq}
use Rattle.std.specs.Cmp.Lexicographic.{nat_list_eq_equiv}
use Rattle.std.proofs.lemmas.Bool.{cases_lt, false_from_ne_true}
use Rattle.std.proofs.lemmas.Fmt.{decimal_injective}
use Rattle.std.proofs.lemmas.List.{append_cancel_left, length-map}
use Rattle.std.proofs.lemmas.List.Folds.{list_any-append}
use Rattle.std.proofs.lemmas.List.FromFn.{length-range_with_len, get_or-map-range_with_len}
use Rattle.std.proofs.lemmas.Map.Keys.{IsDistinct-from_apart}
use Rattle.std.proofs.lemmas.Map.Made.{length-le_from_is_member}
use Rattle.std.proofs.lemmas.Slice.Eq.{bytes_eq-Decides}
use Rattle.dt_table.proofs.Names.{find_least}
use Rattle.header_names.specs.Taken.{TakenBelow, TakenUpTo}
use Rattle.run_model.specs.CsvNames.{is_among, numbered, least_new}

-- ---- a set of names

or_cond : (a b : Bool) → cond a true b ≡ (b || (a || false))
or_cond true true = refl
or_cond true false = refl
or_cond false true = refl
or_cond false false = refl

-- the set and the list gained the same name
pub set_pushed : (list more : List (List ℕ)) (name q : List ℕ) (was now : Bool) → now ≡ cond (bytes_eq name q) true was
    → was ≡ list_any (bytes_eq q) list → more ≡ list ++ name ∷ [] → now ≡ list_any (bytes_eq q) more
set_pushed list more name q was now after before e =
    after ∙ (or_cond (bytes_eq name q) was ∙ rw
    (e, list_any-append (bytes_eq q) list (name ∷ []), before, nat_list_eq_equiv.symm name q) refl)

-- ---- the least number

-- the least number that makes a name new, where the lesser ones do not
pub least_found : (names : List (List ℕ)) (n : List ℕ) (k : ℕ) → 1 ≤ k → k < length names + 2
    → is_among (numbered n k) names ≡ false
    → ((j : ℕ) → 1 ≤ j → j < k → is_among (numbered n j) names ≡ true) → least_new names n ≡ k
least_found names n k low high here before =
    ap (λ o. unwrap_or o 0)
    (find_least (λ k. not (is_among (numbered n k) names)) (length names + 1) 1 k low (omega arith) (ap not here)
    (λ j l h. ap not (before j l h)))

-- a test of two texts that says true
pub same_text : (a b : List ℕ) → bytes_eq a b ≡ true → a ≡ b
same_text a b e = (bytes_eq-Decides a b).0 e

tail_of : List ℕ → List ℕ
tail_of [] = []
tail_of (x ∷ xs) = xs

-- a name with one number is not the name with another
numbers_apart : (n : List ℕ) (j k : ℕ) → j < k → k < 2 ^ 64 → bytes_eq (numbered n j) (numbered n k) ≡ false
unfolding tail_of
numbers_apart n j k lt small =
    false_from_ne_true (bytes_eq (numbered n j) (numbered n k)) (λ e.
    let same = append_cancel_left n (46 ∷ decimal j) (46 ∷ decimal k) (same_text (numbered n j) (numbered n k) e) in
    let one : j ≡ k = decimal_injective j k (omega arith) small (ap tail_of same) in
    absurd (omega arith))

-- what all these numbers give is old
all_old : (count a : ℕ) (names : List (List ℕ)) (n q : List ℕ)
    → ((j : ℕ) → a ≤ j → j < a + count → is_among (numbered n j) names ≡ true)
    → list_any (bytes_eq q) (map (numbered n) (range_with_len a count)) ≡ true → list_any (bytes_eq q) names ≡ true
all_old zero a names n q old e = absurd (true≢false (sym e))
all_old (suc count) a names n q old e =
    (elim (bytes_eq q (numbered n a)) as (λ b. bytes_eq q (numbered n a) ≡ b
    → (b || list_any (bytes_eq q) (map (numbered n) (range_with_len (a + 1) count))) ≡ true
    → list_any (bytes_eq q) names ≡ true) [
      | true ↦ λ h _. rw (same_text q (numbered n a) h) (old a (omega arith) (omega arith))
      | false ↦ λ h rest. all_old count (a + 1) names n q (λ j l u. old j (omega arith) (omega arith)) rest
    ]) refl e

-- so many numbers cannot all leave the name old
pub not_all_old : (names : List (List ℕ)) (n : List ℕ) → length names < 2 ^ 63
    → ((j : ℕ) → 1 ≤ j → j < length names + 2 → is_among (numbered n j) names ≡ true) → ⊥
not_all_old names n small old =
    let count = length names + 1 in
    let these = map (numbered n) (range_with_len 1 count) in
    let many : length these ≡ count = length-map (range_with_len 1 count) (numbered n)
    ∙ length-range_with_len 1 count in
    let apart : IsDistinct bytes_eq these =
    IsDistinct-from_apart bytes_eq these (λ i j d lt within.
    rw (
      get_or-map-range_with_len (numbered n) 1 count i (1 + i) d (omega arith) refl,
      get_or-map-range_with_len (numbered n) 1 count j (1 + j) d (omega arith) refl,
    )
    (numbers_apart n (1 + i) (1 + j) (omega arith) (omega arith))) in
    let few : length these ≤ length names =
    length-le_from_is_member nat_list_eq_equiv these names apart
    (λ q e. all_old count 1 names n q (λ j l u. old j l (omega arith)) e) in
    omega arith

-- ---- numbers that are taken

or_last : (b : Bool) → (b || true) ≡ true
or_last true = refl
or_last false = refl

-- of no names none is taken
pub taken_none : (n : List ℕ) → TakenUpTo 0 n []
taken_none n = record { low = omega arith; taken = λ j a b. absurd (omega (arith, a, b)) }

-- what was taken stays taken
pub taken_more : (k : ℕ) (n x : List ℕ) (names more : List (List ℕ)) → more ≡ names ++ x ∷ [] → TakenBelow k n names
    → TakenBelow k n more
taken_more k n x names more e t = record {
  low = omega (arith, t.low, ap length e, length-append names (x ∷ []));
  taken = λ j a b. rw (e, list_any-append (bytes_eq (numbered n j)) names (x ∷ []), t.taken j a b) refl;
}

-- and the name that was added is taken
pub taken_new : (k : ℕ) (n : List ℕ) (names more : List (List ℕ)) → more ≡ names ++ numbered n k ∷ []
    → TakenBelow k n names → TakenUpTo k n more
taken_new k n names more e t = record {
  low = omega (arith, t.low, ap length e, length-append names (numbered n k ∷ []));
  taken = λ j a b. elim (cases_lt j k) [
    | inl lt ↦ rw (e, list_any-append (bytes_eq (numbered n j)) names (numbered n k ∷ []), t.taken j a lt) refl
    | inr ge ↦ (let same : j ≡ k = omega (arith, b, ge) in
        rw (
          e,
          list_any-append (bytes_eq (numbered n j)) names (numbered n k ∷ []),
          same,
          (bytes_eq-Decides (numbered n k) (numbered n k)).1 refl,
        )
        (or_last (list_any (bytes_eq (numbered n k)) names)))
  ];
}

-- a number that is noted for one name leaves those of the others
pub taken_noted : (base q : List ℕ) (k : ℕ) (now was : Option ℕ) (names : List (List ℕ))
    → now ≡ cond (bytes_eq base q) (Some k) was
    → TakenUpTo k base names → TakenUpTo (unwrap_or was 0) q names → TakenUpTo (unwrap_or now 0) q names
taken_noted base q k now was names e here there =
    rw e ((elim (bytes_eq base q) as (λ b. bytes_eq base q ≡ b
    → TakenUpTo (unwrap_or (cond b (Some k) was) 0) q names) [
      | true ↦ λ h. subst (λ t. TakenUpTo k t names) (same_text base q h) here
      | false ↦ λ _. there
    ]) refl)
