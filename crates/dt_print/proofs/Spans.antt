-- Ranges of places, what is shown of a list, and the greatest of some numbers.
use Rattle.std.proofs.Common.{◌≡◌, ◌∙◌, ℕ, zero, suc, ◌+◌, ◌-◌, ◌*◌, ◌<◌, ◌≤◌, Bool, true, false, cond, max, List, []}
use Rattle.std.proofs.Common.{◌∷◌, ◌++◌, length, take, drop, get_or, refl, sym, ap, arith, append_assoc, add-one}
use Rattle.std.specs.Prelude.{map, nat_le, codes}
use Rattle.std.specs.List.{flat_map, range_with_len, take-map, drop-map}
use Rattle.std.proofs.lemmas.List.{map-append, length-map, append-nil}
use Rattle.std.proofs.lemmas.List.FromFn.{length-range_with_len, length-map-range_with_len}
use Rattle.std.proofs.lemmas.Grind.{flat_map-append}
use Rattle.std.proofs.lemmas.List.Folds.{flat_map-map}
use Rattle.std.proofs.lemmas.Bool.Decides.{nat_tests}
use Rattle.run_model.specs.Printed.{greatest, shown, elided, lines_text}
use Rattle.dt_print.specs.Lines.{first_count, last_start, dashes}

-- one place more at the end of a range
pub range-suc : (a n : ℕ) → range_with_len a (suc n) ≡ range_with_len a n ++ (a + n) ∷ []
range-suc a zero = ap (λ k. k ∷ []) (omega arith)
range-suc a (suc n) =
    ap (λ r. a ∷ r) (range-suc (a + 1) n ∙ ap (λ k. range_with_len (a + 1) n ++ k ∷ []) (omega arith))

-- one place more of the places from one up to another
pub range_more : (from p : ℕ) → from ≤ p → range_with_len from (p + 1 - from) ≡ range_with_len from (p - from) ++ p ∷ []
range_more from p h =
    ap (λ k. range_with_len from k) (let e : p + 1 - from ≡ suc (p - from) = omega arith in e)
    ∙ range-suc from (p - from)
    ∙ ap (λ k. range_with_len from (p - from) ++ k ∷ []) (let e : from + (p - from) ≡ p = omega arith in e)

pub flat_map-range_more : (f : ℕ → List ℕ) (from p : ℕ) → from ≤ p
    → flat_map f (range_with_len from (p + 1 - from)) ≡ flat_map f (range_with_len from (p - from)) ++ f p
flat_map-range_more f from p h =
    ap (flat_map f) (range_more from p h) ∙ flat_map-append f (range_with_len from (p - from)) (p ∷ [])
    ∙ ap (λ r. flat_map f (range_with_len from (p - from)) ++ r) (append-nil (f p))

pub greatest-append : (ns ms : List ℕ) → greatest (ns ++ ms) ≡ max (greatest ns) (greatest ms)
greatest-append [] ms = omega arith
greatest-append (n ∷ ns) ms = ap (max n) (greatest-append ns ms) ∙ max_assoc n (greatest ns) (greatest ms)
  where
    max_assoc : (a b c : ℕ) → max a (max b c) ≡ max (max a b) c
    max_assoc a b c = omega arith

pub greatest-range_more : (f : ℕ → ℕ) (from p : ℕ) → from ≤ p
    → greatest (map f (range_with_len from (p + 1 - from)))
    ≡ max (greatest (map f (range_with_len from (p - from)))) (f p)
greatest-range_more f from p h =
    ap (λ r. greatest (map f r)) (range_more from p h)
    ∙ ap greatest (map-append f (range_with_len from (p - from)) (p ∷ []))
    ∙ greatest-append (map f (range_with_len from (p - from))) (f p ∷ [])
    ∙ ap (max (greatest (map f (range_with_len from (p - from))))) (let e : max (f p) 0 ≡ f p = omega arith in e)

-- the first places of a range, and those behind them
pub take-range : (a n k : ℕ) → k ≤ n → take k (range_with_len a n) ≡ range_with_len a k
take-range a n zero h = refl
take-range a zero (suc k) h = absurd (omega arith)
take-range a (suc n) (suc k) h = ap (λ r. a ∷ r) (take-range (a + 1) n k (omega arith))

pub drop-range : (a n k : ℕ) → k ≤ n → drop k (range_with_len a n) ≡ range_with_len (a + k) (n - k)
drop-range a n zero h =
    ap (λ b. range_with_len b n) (let e : a ≡ a + 0 = omega arith in e)
    ∙ ap (λ k. range_with_len (a + 0) k) (let e : n ≡ n - 0 = omega arith in e)
drop-range a zero (suc k) h = absurd (omega arith)
drop-range a (suc n) (suc k) h =
    drop-range (a + 1) n k (omega arith)
    ∙ ap (λ b. range_with_len b (n - k)) (let e : a + 1 + k ≡ a + suc k = omega arith in e)
    ∙ ap (λ m. range_with_len (a + suc k) m) (let e : n - k ≡ suc n - suc k = omega arith in e)

-- what is shown of a list by places
pub shown-map : {X Y : Type 0} (f : X → Y) (xs : List X) → shown (map f xs) ≡ map f (shown xs)
shown-map f xs =
    rw length-map (by_size (nat_le (length xs) 100))
  where
    by_size : (b : Bool) → cond b (map f xs) (take 5 (map f xs) ++ drop (length xs - 5) (map f xs))
        ≡ map f (cond b xs (take 5 xs ++ drop (length xs - 5) xs))
    by_size true = refl
    by_size false =
        rw (take-map f 5 xs, drop-map f (length xs - 5) xs) (sym (map-append f (take 5 xs) (drop (length xs - 5) xs)))

-- a list of more than a hundred has five
above_five : (n : ℕ) → nat_le n 100 ≡ false → 5 ≤ n
above_five n h = grind (arith, nat_tests)

-- the places that are shown: the first ones, and the last ones
pub shown-range : (n : ℕ) → shown (range_with_len 0 n)
    ≡ range_with_len 0 (first_count n) ++ range_with_len (last_start n) (n - last_start n)
shown-range n = rw length-range_with_len (by_size (nat_le n 100) (above_five n))
  where
    by_size : (b : Bool) → (b ≡ false → 5 ≤ n)
        → cond b (range_with_len 0 n) (take 5 (range_with_len 0 n) ++ drop (n - 5) (range_with_len 0 n))
        ≡ range_with_len 0 (cond b n 5) ++ range_with_len (cond b n (n - 5)) (n - cond b n (n - 5))
    by_size true h =
        sym (append-nil (range_with_len 0 n))
        ∙ ap (λ k. range_with_len 0 n ++ range_with_len n k) (let e : 0 ≡ n - n = omega arith in e)
    by_size false h =
        let five : 5 ≤ n = h refl in
        rw (take-range 0 n 5 five, drop-range 0 n (n - 5) (omega arith))
        (ap (λ k. range_with_len 0 5 ++ range_with_len k (n - (n - 5)))
        (let e : 0 + (n - 5) ≡ n - 5 = omega arith in e))

lines_text-append : (ls ms : List (List ℕ)) → lines_text (ls ++ ms) ≡ lines_text ls ++ lines_text ms
lines_text-append ls ms = flat_map-append (λ l. l ++ codes "\n") ls ms

-- the lines that are shown, with their line feeds
pub lines_text-elided : (f : ℕ → List ℕ) (n : ℕ) → lines_text (elided (map f (range_with_len 0 n)))
    ≡ lines_text (map f (range_with_len 0 (first_count n))) ++ dashes n
    ++ lines_text (map f (range_with_len (last_start n) (n - last_start n)))
lines_text-elided f n = rw length-map-range_with_len (by_size (nat_le n 100) (above_five n))
  where
    by_size : (b : Bool) → (b ≡ false → 5 ≤ n)
        → lines_text (cond b (map f (range_with_len 0 n))
        (take 5 (map f (range_with_len 0 n)) ++ (codes "---" ∷ drop (n - 5) (map f (range_with_len 0 n)))))
        ≡ lines_text (map f (range_with_len 0 (cond b n 5))) ++ cond b [] (codes "---\n")
        ++ lines_text (map f (range_with_len (cond b n (n - 5)) (n - cond b n (n - 5))))
    by_size true h =
        let none : n - n ≡ 0 = omega arith in
        let all : List ℕ = lines_text (map f (range_with_len 0 n)) in
        rw none (sym (append-nil (all ++ []) ∙ append-nil all))
    by_size false h =
        let five : 5 ≤ n = h refl in
        let start : 0 + (n - 5) ≡ n - 5 = omega arith in
        let first : List (List ℕ) = map f (range_with_len 0 5) in
        let last : List (List ℕ) = map f (range_with_len (n - 5) (n - (n - 5))) in
        rw (
          take-map f 5 (range_with_len 0 n),
          drop-map f (n - 5) (range_with_len 0 n),
          take-range 0 n 5 five,
          drop-range 0 n (n - 5) (omega arith),
          start,
        )
        (lines_text-append first (codes "---" ∷ last)
        ∙ sym (append_assoc (lines_text first) (codes "---\n") (lines_text last)))

-- the lines of places, each with its line feed
pub lines_text-map : (f : ℕ → List ℕ) (ps : List ℕ) → lines_text (map f ps) ≡ flat_map (λ p. f p ++ codes "\n") ps
lines_text-map f ps = flat_map-map (λ l. l ++ codes "\n") f ps

-- A loop over places: the widest so far, and one place more.
pub widest_more : (f : ℕ → ℕ) (from p widest width result : ℕ) → from ≤ p
    → widest ≡ greatest (map f (range_with_len from (p - from))) → width ≡ f p → result ≡ max widest width
    → result ≡ greatest (map f (range_with_len from (p + 1 - from)))
widest_more f from p widest width result h so_far here is_max =
    is_max ∙ (λ i. max (so_far i) (here i)) ∙ sym (greatest-range_more f from p h)

-- A loop over columns: as many touches for each.
pub touches_more : (before start after k each : ℕ) → before ≡ start + k * each → after ≡ before + each
    → after ≡ start + (k + 1) * each
touches_more before start after k each so_far here = omega arith

-- A loop that adds to a text: what it added so far, and what it adds at one place more.
pub added_more : (f : ℕ → List ℕ) (from p : ℕ) (start before after added : List ℕ) → from ≤ p
    → before ≡ start ++ flat_map f (range_with_len from (p - from)) → after ≡ before ++ added → added ≡ f p
    → after ≡ start ++ flat_map f (range_with_len from (p + 1 - from))
added_more f from p start before after added h so_far more here =
    more ∙ (λ i. so_far i ++ here i)
    ∙ append_assoc start (flat_map f (range_with_len from (p - from))) (f p)
    ∙ ap (λ r. start ++ r) (sym (flat_map-range_more f from p h))

-- the same from place 0 on
pub added_next : (f : ℕ → List ℕ) (p : ℕ) (start before after added : List ℕ)
    → before ≡ start ++ flat_map f (range_with_len 0 p) → after ≡ before ++ added → added ≡ f p
    → after ≡ start ++ flat_map f (range_with_len 0 (p + 1))
added_next f p start before after added so_far more here =
    more ∙ (λ i. so_far i ++ here i)
    ∙ append_assoc start (flat_map f (range_with_len 0 p)) (f p)
    ∙ ap (λ r. start ++ r) (sym (ap (flat_map f) (ap (λ k. range_with_len 0 k) (add-one p) ∙ range-suc 0 p)
    ∙ flat_map-append f (range_with_len 0 p) ((0 + p) ∷ [])
    ∙ ap (λ r. flat_map f (range_with_len 0 p) ++ r)
    (append-nil (f (0 + p)) ∙ ap f (let e : 0 + p ≡ p = omega arith in e))))

-- an element does not depend on what would stand past the end
pub get_or-any : {X : Type 0} (xs : List X) (k : ℕ) (d e : X) → k < length xs → get_or xs k d ≡ get_or xs k e
get_or-any [] k d e h = absurd (omega arith)
get_or-any (x ∷ xs) zero d e h = refl
get_or-any (x ∷ xs) (suc k) d e h = get_or-any xs k d e (omega arith)

-- three pieces added one after another
pub three_added : (start first second third x y z : List ℕ) → first ≡ start ++ x → second ≡ first ++ y
    → third ≡ second ++ z
    → third ≡ start ++ (x ++ y ++ z)
three_added start first second third x y z e f h =
    h ∙ ap (λ r. r ++ z) (f ∙ ap (λ r. r ++ y) e)
    ∙ append_assoc (start ++ x) y z ∙ append_assoc start x (y ++ z) ∙ ap (λ r. start ++ r) (sym (append_assoc x y z))

-- A loop over rows: as many touches for each.
pub touches_from : (before start after from p each : ℕ) → from ≤ p → before ≡ start + (p - from) * each
    → after ≡ before + each
    → after ≡ start + (p + 1 - from) * each
touches_from before start after from p each h so_far here =
    touches_more before start after (p - from) each so_far here
    ∙ ap (λ k. start + k * each) (let e : p - from + 1 ≡ p + 1 - from = omega arith in e)
