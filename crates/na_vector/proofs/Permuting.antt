-- All rows in another order.
use Rattle.std.proofs.Common.{◌≡◌, ◌+◌, ◌*◌, ◌<◌, ◌≤◌, ℕ, List, length, map, All, Option, Some, arith, ◌∙◌, ap, subst}
use Rattle.std.proofs.lemmas.Bool.Decides.{nat_tests}
use Rattle.std.specs.List.{range_with_len}
use Rattle.std.specs.List.Sorted.{IsPermutation}
use Rattle.std.proofs.lemmas.List.{length-map}
use Rattle.std.proofs.lemmas.List.Elements.{All-map}
use Rattle.std.proofs.lemmas.List.FromFn.{length-range_with_len, get_or-range_with_len}
use Rattle.std.proofs.lemmas.List.Sorted.{All-permutation, length_permutation}
use Rattle.dt_model.specs.Vector.{IsWithin}
use Rattle.na_vector.specs.Frame.{rows_with}

-- there are as many places as rows
pub permuted_length : (n : ℕ) (order : List ℕ) (places : List (Option ℕ)) → IsPermutation (range_with_len 0 n) order
    → places ≡ map Some order → length places ≡ n
permuted_length n order places h e =
    ap length e ∙ (length-map order Some ∙ (length_permutation (range_with_len 0 n) order h
    ∙ length-range_with_len 0 n))

-- each is one of the rows
pub permuted_within : (n : ℕ) (order : List ℕ) (places : List (Option ℕ)) → IsPermutation (range_with_len 0 n) order
    → places ≡ map Some order → All (IsWithin n) places
permuted_within n order places h e =
    let all : All (λ r. r < n) (range_with_len 0 n) =
    λ k d lt. (let below : k < n = rw (← length-range_with_len 0 n) lt in
    let at = get_or-range_with_len 0 n k d below in omega arith) in
    let there : All (λ r. r < n) order = All-permutation (λ r. r < n) (range_with_len 0 n) order h all in
    rw e (All-map (IsWithin n) Some order there)

-- so there are as many rows
pub permuted_rows : (width n m : ℕ) → m ≡ n → (width ≡ 0 → n ≡ 0) → rows_with width m ≡ n
permuted_rows width n m e none = grind (arith, nat_tests)

-- and as many touches
pub permuted_touches : (a b width n m : ℕ) → m ≡ n → b ≡ a + width * m → b ≡ a + width * n
permuted_touches a b width n m e h = h ∙ ap (λ k. a + width * k) e

pub permuted_at_most : (a b width n m : ℕ) → m ≡ n → b ≤ a + width * m → b ≤ a + width * n
permuted_at_most a b width n m e h = subst (λ k. b ≤ a + width * k) e h
