-- A loop that makes the cell of one place after another, to the first place that is outside.
use Rattle.std.proofs.Common.{◌≡◌, ◌<◌, ◌+◌, ◌++◌, ◌∙◌, ap, below_more, tests, Some, None, ℕ, true, false}
use Rattle.std.proofs.Common.{cond, ltb, List, [], ◌∷◌, arith, rules, Ok, Err, map, sym}
use Rattle.std.proofs.Common.{subst}
use Rattle.std.specs.List.{position_or_len}
use Rattle.std.proofs.lemmas.List.{map-append}
use Rattle.std.proofs.lemmas.List.FromFn.{length-map-range_with_len, get_or-map-range_with_len, map-range_with_len_more}
use Rattle.std.proofs.lemmas.List.Sums.{position_or_len_is}
use Rattle.dt_base.specs.declared.cell.Cell.{Cell}
use Rattle.dt_model.specs.Operations.{Outcome, Outside, Gives, Overflow, is_outside, given, settled, unless_at}
use Rattle.dt_model.specs.Operations.{at_places}

-- no place below p is outside, and these are the cells of the places below p
pub record Settled (f : ℕ → Outcome) (p : ℕ) (cells : List Cell) : Type 0 where
  pub inside : (k : ℕ) → k < p → is_outside (f k) ≡ false
  pub cells_are : cells ≡ map given (at_places p f)

-- the first of n places that is outside
first_at : (f : ℕ → Outcome) (n p : ℕ) → p < n → ((k : ℕ) → k < p → is_outside (f k) ≡ false) → is_outside (f p) ≡ true
    → position_or_len is_outside (at_places n f) ≡ p
first_at f n p lt below here =
    let long = length-map-range_with_len f 0 n in
    position_or_len_is is_outside (at_places n f) p Outside (omega (arith, long))
    (λ k h. ap is_outside (get_or-map-range_with_len f 0 n k k Outside (omega arith) (omega arith)) ∙ below k h)
    (λ _. ap is_outside (get_or-map-range_with_len f 0 n p p Outside lt (omega arith)) ∙ here)

none_at : (f : ℕ → Outcome) (n : ℕ) → ((k : ℕ) → k < n → is_outside (f k) ≡ false)
    → position_or_len is_outside (at_places n f) ≡ n
none_at f n below =
    let long = length-map-range_with_len f 0 n in
    position_or_len_is is_outside (at_places n f) n Outside (omega (arith, long))
    (λ k h. ap is_outside (get_or-map-range_with_len f 0 n k k Outside h (omega arith)) ∙ below k h)
    (λ h. absurd (omega (arith, long)))

found : (q m p n : ℕ) (cells : List Cell) → q ≡ p → m ≡ n → p < n
    → unless_at (cond (ltb q m) (Some q) None) cells ≡ Err (Overflow p)
found q m p n cells e long lt =
    let test : ltb q m ≡ true = search (rules, tests) in
    ap (λ b. unless_at (cond b (Some q) None) cells) test ∙ ap (λ k. Err (Overflow k)) e

not_found : (q m n : ℕ) (cells : List Cell) → q ≡ n → m ≡ n → unless_at (cond (ltb q m) (Some q) None) cells ≡ Ok cells
not_found q m n cells e long =
    let test : ltb q m ≡ false = search (rules, tests) in
    ap (λ b. unless_at (cond b (Some q) None) cells) test

-- the place at fault is the first
pub settled_at : (f : ℕ → Outcome) (n p : ℕ) (cells : List Cell) → Settled f p cells → p < n → f p ≡ Outside
    → settled (at_places n f) ≡ Err (Overflow p)
settled_at f n p cells h lt o =
    found _ _ p n (map given (at_places n f)) (first_at f n p lt h.inside (ap is_outside o))
    (length-map-range_with_len f 0 n) lt

-- all places are inside
pub settled_all : (f : ℕ → Outcome) (n p : ℕ) (cells : List Cell) → Settled f p cells → p ≡ n
    → settled (at_places n f) ≡ Ok cells
settled_all f n p cells before e =
    let h : Settled f n cells = subst (λ k. Settled f k cells) e before in
    not_found _ _ n (map given (at_places n f)) (none_at f n h.inside) (length-map-range_with_len f 0 n)
    ∙ ap (λ xs. Ok xs) (sym h.cells_are)

-- one more place
pub settled_more : (f : ℕ → Outcome) (p : ℕ) (cells : List Cell) (c : Cell) → Settled f p cells → f p ≡ Gives c
    → Settled f (p + 1) (cells ++ c ∷ [])
settled_more f p cells c h e = record {
  inside = below_more _ _ h.inside (ap is_outside e);
  cells_are = (let one : given (f p) ≡ c = ap given e in
      sym (ap (map given) (map-range_with_len_more f 0 p p (omega arith)) ∙ map-append given (at_places p f) (f p ∷ [])
      ∙ ap (λ x. map given (at_places p f) ++ x ∷ []) one ∙ ap (λ xs. xs ++ c ∷ []) (sym h.cells_are)));
}

-- the loop's step: one more word
pub word_more : {W : Type 0} (cell : W → Cell) (f : ℕ → Outcome) (p : ℕ) (items new : List W) (w : W) →
    Settled f p (map cell items) → f p ≡ Gives (cell w) → new ≡ items ++ w ∷ [] → Settled f (p + 1) (map cell new)
word_more cell f p items new w h e pushed =
    subst (λ xs. Settled f (p + 1) xs) (sym (ap (map cell) pushed ∙ map-append cell items (w ∷ [])))
    (settled_more f p (map cell items) (cell w) h e)
