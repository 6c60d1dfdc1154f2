-- Repeated names: what a set of the names so far says of the next one.
use Rattle.std.proofs.Common.{◌≡◌, ◌+◌, ◌<◌, ◌≤◌, ℕ, zero, suc, Bool, true, false, not, cond, ◌||◌, List, [], take}
use Rattle.std.proofs.Common.{length, get_or, None, Some, find, refl, sym, ◌∙◌, ap, arith, inl, inr, length-take}
use Rattle.std.specs.List.{range_with_len, list_any, IsDistinct}
use Rattle.std.specs.Str.{bytes_eq}
use Rattle.std.specs.Cmp.Lexicographic.{nat_list_eq_equiv}
use Rattle.std.proofs.lemmas.Bool.{cases_lt}
use Rattle.std.proofs.lemmas.List.{get_or_default, get_or-take}
use Rattle.std.proofs.lemmas.List.Folds.{list_any_more, list_any_at}
use Rattle.std.proofs.lemmas.Map.Keys.{IsDistinct-from_apart}
use Rattle.dt_model.specs.Table.{name_at, is_repeated, first_repeated}

-- ---- the least number of a range that passes

pub find_least : (p : ℕ → Bool) (n a k : ℕ) → a ≤ k → k < a + n → p k ≡ true → ((j : ℕ) → a ≤ j → j < k → p j ≡ false)
    → find p (range_with_len a n) ≡ Some k
find_least p zero a k lo hi hit miss = absurd (omega arith)
find_least p (suc n) a k lo hi hit miss =
    elim (cases_lt a k) [
      | inl lt ↦ rw (miss a (omega arith) lt) (find_least p n (a + 1) k (omega arith) (omega arith) hit
          (λ j l h. miss j (omega arith) h))
      | inr ge ↦ (let e : a ≡ k = omega arith in rw (e, hit) refl)
    ]

pub find_none : (p : ℕ → Bool) (n a : ℕ) → ((j : ℕ) → a ≤ j → j < a + n → p j ≡ false) → find p (range_with_len a n)
    ≡ None
find_none p zero a miss = refl
find_none p (suc n) a miss = rw (miss a (omega arith) (omega arith))
    (find_none p n (a + 1) (λ j l h. miss j (omega arith) (omega arith)))

pub miss_from_none : (p : ℕ → Bool) (n a : ℕ) → find p (range_with_len a n) ≡ None → (j : ℕ) → a ≤ j → j < a + n → p j
    ≡ false
miss_from_none p zero a e j lo hi = absurd (omega arith)
miss_from_none p (suc n) a e j lo hi =
    (elim (p a) as (λ v. p a ≡ v → cond v (Some a) (find p (range_with_len (a + 1) n)) ≡ None → p j ≡ false) [
      | true ↦ λ h s. cc
      | false ↦ λ h s. (elim (cases_lt a j) [
        | inl lt ↦ miss_from_none p n (a + 1) s j (omega arith) (omega arith)
        | inr ge ↦ (let e : j ≡ a = omega arith in rw e h)
      ])
    ]) refl e

-- ---- one more name

or_cond : (a b : Bool) → cond a true b ≡ (b || a)
or_cond true true = refl
or_cond true false = refl
or_cond false true = refl
or_cond false false = refl

-- a set that answers as the first i names do answers as the first i + 1 do once the next is in it
pub seen_more : (names : List (List ℕ)) (i : ℕ) (name q : List ℕ) (was now : Bool) → i < length names → name
    ≡ get_or names i name → was ≡ list_any (bytes_eq q) (take i names) → now ≡ cond (bytes_eq name q) true was → now
    ≡ list_any (bytes_eq q) (take (i + 1) names)
seen_more names i name q was now lt at before after =
    after ∙ (or_cond (bytes_eq name q) was ∙ rw (
      list_any_more (bytes_eq q) names i name lt,
      ← before,
      ← at,
      nat_list_eq_equiv.symm name q,
    ) refl)

-- whether the name at a place stands before it
pub is_repeated-at : (names : List (List ℕ)) (i : ℕ) (name : List ℕ) → i < length names → name ≡ get_or names i name
    → is_repeated names i ≡ list_any (bytes_eq name) (take i names)
is_repeated-at names i name lt at = ap (λ (n : List ℕ). list_any (bytes_eq n) (take i names))
    (get_or_default names i [] name lt ∙ sym at)

not-true : (a : Bool) → true ≡ not a → a ≡ false
not-true true e = e
not-true false e = refl

not-false : (a : Bool) → false ≡ not a → a ≡ true
not-false true e = refl
not-false false e = e

-- the next name was in the set: it is the first that stands twice
pub repeated_here : (names : List (List ℕ)) (i : ℕ) (name : List ℕ) (was added : Bool) → i < length names → name
    ≡ get_or names i name → was ≡ list_any (bytes_eq name) (take i names) → added ≡ not was → added ≡ false
    → ((k : ℕ) → k < i → is_repeated names k ≡ false) → first_repeated names ≡ Some i
repeated_here names i name was added lt at before e f none =
    find_least (is_repeated names) (length names) 0 i (omega arith) (omega arith)
    (is_repeated-at names i name lt at ∙ (sym before ∙ not-false was (sym f ∙ e))) (λ j l h. none j h)

-- the next name was not in the set
pub new_here : (names : List (List ℕ)) (i : ℕ) (name : List ℕ) (was added : Bool) → i < length names → name
    ≡ get_or names i name → was ≡ list_any (bytes_eq name) (take i names) → added ≡ not was → added ≡ true
    → is_repeated names i ≡ false
new_here names i name was added lt at before e t = is_repeated-at names i name lt at
    ∙ (sym before ∙ not-true was (sym t ∙ e))

pub none_repeated : (names : List (List ℕ)) (i : ℕ) → length names ≤ i
    → ((k : ℕ) → k < i → is_repeated names k ≡ false) → first_repeated names ≡ None
none_repeated names i le none = find_none (is_repeated names) (length names) 0 (λ j l h. none j (omega arith))

-- ---- distinct names

apart : (b : Bool) → (b ≡ true → ⊥) → b ≡ false
apart true h = absurd (h refl)
apart false h = refl

-- where no name stands twice, the names are distinct
pub IsDistinct-from_none : (names : List (List ℕ)) → first_repeated names ≡ None → IsDistinct bytes_eq names
IsDistinct-from_none names e =
    IsDistinct-from_apart bytes_eq names (λ i j d lt hi.
    let once : is_repeated names j ≡ false = miss_from_none (is_repeated names) (length names) 0 e j (omega arith)
    (omega arith) in
    let before : get_or (take j names) i d ≡ get_or names i d = get_or-take j names i d lt in
    let at : name_at names j ≡ get_or names j d = get_or_default names j [] d hi in
    apart _ (λ (same : bytes_eq (get_or names i d) (get_or names j d) ≡ true).
    let found : list_any (bytes_eq (name_at names j)) (take j names)
    ≡ true = list_any_at (bytes_eq (name_at names j)) (take j names) i d (rw length-take (omega arith))
    (rw (before, at, nat_list_eq_equiv.symm (get_or names j d) (get_or names i d)) same) in
    cc))
