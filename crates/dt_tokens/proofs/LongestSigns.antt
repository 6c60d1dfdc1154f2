-- The longer signs come first, so the first sign that a text begins with is the longest.
use Rattle.std.proofs.Common.{◌≡◌, ◌⊎◌, ℕ, ◌<◌, ◌≤◌, Bool, true, false, cond, List, [], ◌∷◌, ◌++◌, length, drop, nat_eq}
use Rattle.std.proofs.Common.{nat_le, ◌&&◌, Option, Some, None, inl, inr, zero, suc, get_or, ⊎_elim, refl, ap, sym}
use Rattle.std.proofs.Common.{subst, ◌∙◌, arith}
use Rattle.std.specs.List.{starts_with}
use Rattle.std.proofs.lemmas.Slice.Eq.{starts_is}
use Rattle.std.proofs.lemmas.Bool.Decides.{Decides-eqb, nat_tests}
use Rattle.dt_tree.specs.declared.token.Sign.{Sign}
use Rattle.dt_tree.specs.declared.token.Sign.TheVariants.{In, Div, Mod, Arrow, Assign, Eq, Ne, Le, Ge, Open, Shut}
use Rattle.dt_tree.specs.declared.token.Sign.TheVariants.{OpenSquare, ShutSquare, Comma, Semi, Plus, Minus, Times, Lt}
use Rattle.dt_tree.specs.declared.token.Sign.TheVariants.{Gt, And, Or, Bang, Range, Tilde, Is}
use Rattle.dt_tokens.proofs.Utf8Texts.{both_true}
use Rattle.run_model.specs.Signs.{spelled, signs, first_sign, sign_at}

-- where a sign stands in the list
number : Sign → ℕ
number In = 0
number Div = 1
number Mod = 2
number Arrow = 3
number Assign = 4
number Eq = 5
number Ne = 6
number Le = 7
number Ge = 8
number Open = 9
number Shut = 10
number OpenSquare = 11
number ShutSquare = 12
number Comma = 13
number Semi = 14
number Plus = 15
number Minus = 16
number Times = 17
number Lt = 18
number Gt = 19
number And = 20
number Or = 21
number Bang = 22
number Range = 23
number Tilde = 24
number Is = 25

nth_number : (x : Sign) → get_or signs (number x) In ≡ x
unfolding number
nth_number In = refl
nth_number _ = refl

number_small : (x : Sign) → number x < 26
unfolding number
number_small In = omega arith
number_small _ = omega arith

abbrev all_short : ℕ → List Sign → Bool
all_short n [] = true
all_short n (x ∷ xs) = nat_le (length (spelled x)) n && all_short n xs

-- no sign is longer than one before it
abbrev fall : List Sign → Bool
fall [] = true
fall (x ∷ xs) = all_short (length (spelled x)) xs && fall xs

signs_fall : fall signs ≡ true
signs_fall = refl

all_short_at : (xs : List Sign) (n k : ℕ) → all_short n xs ≡ true → k < length xs →
    length (spelled (get_or xs k In)) ≤ n
all_short_at [] n k short within = absurd (omega arith)
all_short_at (x ∷ xs) n zero short within = let h =
    (both_true (nat_le (length (spelled x)) n) (all_short n xs) short).0 in grind (arith, nat_tests)
all_short_at (x ∷ xs) n (suc k) short within =
    all_short_at xs n k (both_true (nat_le (length (spelled x)) n) (all_short n xs) short).1 (omega arith)

head_longest : (z : Sign) (zs : List Sign) (k : ℕ) → fall (z ∷ zs) ≡ true → k < length (z ∷ zs) →
    length (spelled (get_or (z ∷ zs) k In)) ≤ length (spelled z)
head_longest z zs zero falls within = omega arith
head_longest z zs (suc k) falls within =
    all_short_at zs (length (spelled z)) k (both_true (all_short (length (spelled z)) zs) (fall zs) falls).0
    (omega arith)

-- what holds of the choice by the first sign and of the choice by the rest
chosen_first : (t : Bool) (x z : Sign) (o : Option Sign) → cond t (Some z) o ≡ Some x →
    ((t ≡ true) × (z ≡ x)) ⊎ ((t ≡ false) × (o ≡ Some x))
chosen_first true x z o h = inl (refl, cc)
chosen_first false x z o h = inr (refl, h)

longest_at : (xs : List Sign) (x : Sign) (s : List ℕ) (k : ℕ) → fall xs ≡ true → first_sign xs s ≡ Some x →
    k < length xs → starts_with nat_eq s (spelled (get_or xs k In)) ≡ true →
    length (spelled (get_or xs k In)) ≤ length (spelled x)
longest_at [] x s k falls found within here = absurd (omega arith)
longest_at (z ∷ zs) x s zero falls found within here =
    ⊎_elim (λ p. omega (arith, ap (λ y. length (spelled y)) p.1))
    (λ p. let e : true ≡ false = sym here ∙ p.0 in absurd (cc))
    (chosen_first (starts_with nat_eq s (spelled z)) x z (first_sign zs s) found)
longest_at (z ∷ zs) x s (suc k) falls found within here =
    ⊎_elim
    (λ p. subst (λ y. length (spelled (get_or zs k In)) ≤ length (spelled y)) p.1
    (head_longest z zs (suc k) falls within))
    (λ p. longest_at zs x s k (both_true (all_short (length (spelled z)) zs) (fall zs) falls).1 p.1 (omega arith) here)
    (chosen_first (starts_with nat_eq s (spelled z)) x z (first_sign zs s) found)

found_starts : (xs : List Sign) (x : Sign) (s : List ℕ) → first_sign xs s ≡ Some x →
    starts_with nat_eq s (spelled x) ≡ true
found_starts [] x s h = absurd (cc)
found_starts (z ∷ zs) x s h =
    ⊎_elim (λ p. ap (λ y. starts_with nat_eq s (spelled y)) (sym p.1) ∙ p.0) (λ p. found_starts zs x s p.1)
    (chosen_first (starts_with nat_eq s (spelled z)) x z (first_sign zs s) h)

none_starts : (xs : List Sign) (s : List ℕ) (k : ℕ) → first_sign xs s ≡ None → k < length xs →
    starts_with nat_eq s (spelled (get_or xs k In)) ≡ false
none_starts [] s k h within = absurd (omega arith)
none_starts (z ∷ zs) s zero h within = (none_head (starts_with nat_eq s (spelled z)) z (first_sign zs s) h).0
  where
    none_head : (t : Bool) (z : Sign) (o : Option Sign) → cond t (Some z) o ≡ None → (t ≡ false) × (o ≡ None)
    none_head true z o h = absurd (cc)
    none_head false z o h = (refl, h)
none_starts (z ∷ zs) s (suc k) h within =
    none_starts zs s k (none_rest (starts_with nat_eq s (spelled z)) z (first_sign zs s) h) (omega arith)
  where
    none_rest : (t : Bool) (z : Sign) (o : Option Sign) → cond t (Some z) o ≡ None → o ≡ None
    none_rest true z o h = absurd (cc)
    none_rest false z o h = h

starts : (s rest : List ℕ) (x : Sign) → s ≡ spelled x ++ rest → starts_with nat_eq s (spelled x) ≡ true
starts s rest x e = (starts_is Decides-eqb s (spelled x) (starts_with nat_eq s (spelled x)) refl).1 rest e

starts_nth : (s rest : List ℕ) (y : Sign) → s ≡ spelled y ++ rest →
    starts_with nat_eq s (spelled (get_or signs (number y) In)) ≡ true
starts_nth s rest y e = ap (λ z. starts_with nat_eq s (spelled z)) (nth_number y) ∙ starts s rest y e

pub sign_begins : (x : Sign) (s : List ℕ) → sign_at s ≡ Some x → s ≡ spelled x ++ drop (length (spelled x)) s
sign_begins x s h = (starts_is Decides-eqb s (spelled x) (starts_with nat_eq s (spelled x)) refl).0
    (found_starts signs x s h)

pub sign_longest : (x y : Sign) (s rest : List ℕ) → sign_at s ≡ Some x → s ≡ spelled y ++ rest →
    length (spelled y) ≤ length (spelled x)
sign_longest x y s rest h e =
    subst (λ z. length (spelled z) ≤ length (spelled x)) (nth_number y)
    (longest_at signs x s (number y) signs_fall h (number_small y) (starts_nth s rest y e))

pub sign_none : (y : Sign) (s rest : List ℕ) → sign_at s ≡ None → ¬ (s ≡ spelled y ++ rest)
sign_none y s rest h e = let k : true ≡ false = sym (starts_nth s rest y e)
    ∙ none_starts signs s (number y) h (number_small y) in absurd (cc)
