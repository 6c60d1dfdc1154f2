-- What digits spell when they follow others, one digit at a time.
use Rattle.std.proofs.Common.{◌≡◌, ◌≤◌, ◌<◌, ◌+◌, ◌*◌, ◌-◌, ◌%◌, ◌^◌, ◌⊎◌, ℕ, suc, Bool, ◌&&◌, List, [], ◌∷◌, Some}
use Rattle.std.proofs.Common.{None, length, drop, get_or, nat_lt, arith, add-one, drop-cons, if◌then◌else◌}
use Rattle.std.proofs.Math.Nat.{pow-le-pow_right}
use Rattle.std.proofs.lemmas.Grind.{common_steps}
use Rattle.std.specs.Char.{digit_value}
use Rattle.std.specs.Str.{all_ascii_digits}
use Rattle.std.specs.Str.Parse.{digits_value_after}
use Rattle.cell_text.specs.Digits.{natural_after}
use Rattle.dt_model.specs.Spelling.{natural_of}

-- one digit more
pub natural_after_digit : (n c : ℕ) (cs : List ℕ) → 48 ≤ c → c ≤ 57
    → natural_after n (c ∷ cs) ≡ natural_after (n * 10 + (c - 48)) cs
natural_after_digit n c cs low high = grind (arith, common_steps)

-- a byte that is no digit
pub natural_after_other : (n c : ℕ) (cs : List ℕ) → (c < 48) ⊎ (57 < c) → natural_after n (c ∷ cs) ≡ None
natural_after_other n c cs out = grind (arith, common_steps)

-- more digits make no lesser number
pub digits_value_after-le : (n : ℕ) (ds : List ℕ) → n ≤ digits_value_after 10 n ds
digits_value_after-le n [] = omega arith
digits_value_after-le n (c ∷ cs) = omega (arith, digits_value_after-le (n * 10 + digit_value c) cs)

-- a value past the range
past_range : (b : Bool) (v : ℕ) → 2 ^ 63 ≤ v → (if b && nat_lt v (2 ^ 63) then Some v else None) ≡ None
past_range b v over = grind (arith, common_steps)

-- a digit after a number that has no room for one
pub natural_after_great : (n c : ℕ) (cs : List ℕ) → 922337203685477580 < n → natural_after n (c ∷ cs) ≡ None
natural_after_great n c cs great =
    past_range (all_ascii_digits (c ∷ cs)) (digits_value_after 10 n (c ∷ cs))
    (omega (arith, digits_value_after-le (n * 10 + digit_value c) cs))

-- nothing more
pub natural_after_all : (n : ℕ) → n < 2 ^ 63 → natural_after n [] ≡ Some n
natural_after_all n small = grind (arith, common_steps)

pub natural_after_over : (n : ℕ) → 2 ^ 63 ≤ n → natural_after n [] ≡ None
natural_after_over n over = grind (arith, common_steps)

-- the whole text
pub natural_of_all : (ds : List ℕ) → 0 < length ds → natural_of ds ≡ natural_after 0 ds
natural_of_all ds some = grind (arith, common_steps)

-- the same of what is left of a text at a place
pub natural_after_drop_digit : (n i : ℕ) (ds : List ℕ) → i < length ds → 48 ≤ get_or ds i 0 → get_or ds i 0 ≤ 57 →
    natural_after n (drop i ds) ≡ natural_after (n * 10 + (get_or ds i 0 - 48)) (drop (i + 1) ds)
natural_after_drop_digit n i ds within low high =
    rw (add-one, drop-cons ds i 0) (natural_after_digit n (get_or ds i 0) (drop (suc i) ds) low high)

pub natural_after_drop_other : (n i : ℕ) (ds : List ℕ) → i < length ds → (get_or ds i 0 < 48) ⊎ (57 < get_or ds i 0) →
    natural_after n (drop i ds) ≡ None
natural_after_drop_other n i ds within out =
    rw (drop-cons ds i 0) (natural_after_other n (get_or ds i 0) (drop (suc i) ds) out)

pub natural_after_drop_great : (n i : ℕ) (ds : List ℕ) → i < length ds → 922337203685477580 < n →
    natural_after n (drop i ds) ≡ None
natural_after_drop_great n i ds within great =
    rw (drop-cons ds i 0) (natural_after_great n (get_or ds i 0) (drop (suc i) ds) great)

-- a byte whose distance from the digit 0 is more than 9
pub not_digit : (b : ℕ) → b < 256 → 9 < (b + 208) % 256 → (b < 48) ⊎ (57 < b)
not_digit b small far = grind arith

-- a number of at most eighteen digits
pub few_digits : (n i : ℕ) → n < 10 ^ (i + 1) → i ≤ 17 → n < 1000000000000000000
few_digits n i short few =
    let more : i + 1 ≤ 18 = omega arith in
    let power : 10 ^ (i + 1) ≤ 10 ^ 18 = pow-le-pow_right {n = 10} (omega arith) {i = i + 1} {j = 18} more in
    omega (arith, short, power)
