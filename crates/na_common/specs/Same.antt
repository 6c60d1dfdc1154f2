-- Equal words are the same cell.
use Rattle.std.specs.Prelude.{◌≡◌, ◌-◌, ◌^◌, ℕ, zero, suc, ℤ, negsuc, Bool, true, false, cond, List, Option}
use Rattle.std.specs.Prelude.{None, Some, nat_eq, refl}
use Rattle.std.specs.Option.{option_eq}
use Rattle.std.specs.Ordering.{int_eq}
use Rattle.std.specs.Str.{bytes_eq}
use Rattle.std.proofs.Common.{arith}
use Rattle.std.proofs.lemmas.Int.{ints}
use Rattle.dt_base.specs.declared.cell.Cell.TheVariants as is
use Rattle.dt_model.specs.Operations.{same_cell}
use Rattle.na_vector.specs.Words.{int_cell, lgl_cell, text_cell, IsLglWord}

both_least : (x y m : ℤ) → int_eq x m ≡ true → int_eq y m ≡ true → int_eq x y ≡ true
both_least x y m h k = grind (arith, ints)

first_least : (x y m : ℤ) → int_eq x m ≡ true → int_eq y m ≡ false → int_eq x y ≡ false
first_least x y m h k = grind (arith, ints)

second_least : (x y m : ℤ) → int_eq x m ≡ false → int_eq y m ≡ true → int_eq x y ≡ false
second_least x y m h k = grind (arith, ints)

int_cases : (x y m : ℤ) (u v : Bool) → int_eq x m ≡ u → int_eq y m ≡ v
    → int_eq x y ≡ same_cell (cond u is.Na (is.Int x)) (cond v is.Na (is.Int y))
int_cases x y m true true h k = both_least x y m h k
int_cases x y m true false h k = first_least x y m h k
int_cases x y m false true h k = second_least x y m h k
int_cases x y m false false h k = refl

-- integers, with NA
pub same_int : (x y : ℤ) → int_eq x y ≡ same_cell (int_cell x) (int_cell y)
same_int x y = int_cases x y (negsuc (2 ^ 63 - 1)) (int_eq x (negsuc (2 ^ 63 - 1)))
    (int_eq y (negsuc (2 ^ 63 - 1))) refl refl

-- logicals, with NA
pub same_lgl : (x y : ℕ) → IsLglWord x → IsLglWord y → nat_eq x y ≡ same_cell (lgl_cell x) (lgl_cell y)
same_lgl zero zero h k = refl
same_lgl zero (suc zero) h k = refl
same_lgl zero (suc (suc zero)) h k = refl
same_lgl (suc zero) zero h k = refl
same_lgl (suc zero) (suc zero) h k = refl
same_lgl (suc zero) (suc (suc zero)) h k = refl
same_lgl (suc (suc zero)) zero h k = refl
same_lgl (suc (suc zero)) (suc zero) h k = refl
same_lgl (suc (suc zero)) (suc (suc zero)) h k = refl
same_lgl (suc (suc (suc x))) y h k = absurd (omega arith)
same_lgl x (suc (suc (suc y))) h k = absurd (omega arith)

-- texts, with NA
pub same_text : (x y : Option (List ℕ)) → option_eq bytes_eq x y ≡ same_cell (text_cell x) (text_cell y)
same_text None None = refl
same_text None (Some y) = refl
same_text (Some x) None = refl
same_text (Some x) (Some y) = refl
