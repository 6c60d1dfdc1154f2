-- What an i chooses is within the table, and is not too much.
use Rattle.std.proofs.Common.{◌≡◌, ◌≤◌, ◌==◌, ℕ, zero, suc, pos, negsuc, Bool, true, false, not, nat_lt, if◌then◌else◌}
use Rattle.std.proofs.Common.{List, [], ◌∷◌, length, All, Some, None, Result, Ok, Err, IfOk, refl, subst, arith}
use Rattle.std.proofs.Common.{length-append}
use Rattle.std.specs.List.{list_all, list_any}
use Rattle.std.proofs.lemmas.Grind.{common_steps}
use Rattle.std.proofs.lemmas.List.Elements.{All-nil, All-cons, All-append}
use Rattle.eval_fail.specs.Answers.{AnswersAs}
use Rattle.eval_fail.specs.declared.fail.EvalFail.{EvalFail}
use Rattle.dt_base.specs.declared.cell.Cell.{Cell}
use Rattle.dt_base.specs.declared.cell.Cell.TheVariants as is
use Rattle.dt_base.specs.declared.cell.ColType.TheVariants as ty
use Rattle.dt_base.specs.declared.fault.Fault.{Fault}
use Rattle.dt_model.specs.Vector.{IsWithin, Vector, cell_at}
use Rattle.row_model.specs.Rows.{Places, all_rows, by_place, by_truth, chosen, chosen_by, is_below_or_zero}
use Rattle.row_model.specs.Rows.{is_below_zero, is_true, leaves_out, left_rows, named_row, named_rows, true_rows}
use Rattle.row_choice.proofs.Ranges.{all_count, all_within, rows_short, rows_within}

-- each place is within n rows, and there are at most m
pub record Fine (n m : ℕ) (places : Places) : Type 0 where
  pub within : All (IsWithin n) places
  pub short : length places ≤ m

-- either branch of a test
either : (n m : ℕ) (b : Bool) (x y : Result Places Fault) →
    (b ≡ true → IfOk x (Fine n m)) → (b ≡ false → IfOk y (Fine n m)) → IfOk (if b then x else y) (Fine n m)
either n m true x y h k = h refl
either n m false x y h k = k refl

-- ---- A logical i

true_fine : (n m : ℕ) (cells : List Cell) → length cells ≡ n → n ≤ m → Fine n m (true_rows cells)
true_fine n m cells e h =
    let test : ℕ → Bool = λ p. is_true (cell_at cells p) in
    let P : ℕ → Type 0 = λ k. All (IsWithin k) (true_rows cells) in record {
      within = subst P e (rows_within test (length cells));
      short = omega (arith, rows_short test (length cells));
    }

none_fine : (n m : ℕ) → Fine n m []
none_fine n m = record { within = All-nil (IsWithin n); short = omega arith }

one_fine : (n m : ℕ) (b : Bool) → n ≤ m → Fine n m (if b then all_rows n else [])
one_fine n m true h = record {
  within = all_within n (all_rows n) refl;
  short = omega (arith, all_count n (all_rows n) refl);
}
one_fine n m false h = none_fine n m

truth_fine : (n m : ℕ) (cells : List Cell) → n ≤ m → IfOk (by_truth n cells) (Fine n m)
truth_fine n m cells h =
    either n m (length cells == n) _ _
    (λ e. true_fine n m cells (grind (arith, common_steps)) h)
    (λ _. either n m (length cells == 1) _ _ (λ _. one_fine n m (is_true (cell_at cells 0)) h) (λ _. tt))

-- ---- An integer i

some_within : (n p : ℕ) (b : Bool) → nat_lt p n ≡ b → IsWithin n (if b then Some p else None)
some_within n p true e = grind (arith, common_steps)
some_within n p false e = tt

row_within : (n : ℕ) (c : Cell) → All (IsWithin n) (named_row n c)
row_within n (is.Int (pos zero)) = All-nil (IsWithin n)
row_within n (is.Int (pos (suc p))) = All-cons (IsWithin n) _ [] (some_within n p (nat_lt p n) refl)
    (All-nil (IsWithin n))
row_within n (is.Int (negsuc k)) = All-cons (IsWithin n) None [] tt (All-nil (IsWithin n))
row_within n (is.Lgl b) = All-cons (IsWithin n) None [] tt (All-nil (IsWithin n))
row_within n (is.Text t) = All-cons (IsWithin n) None [] tt (All-nil (IsWithin n))
row_within n is.Na = All-cons (IsWithin n) None [] tt (All-nil (IsWithin n))

row_short : (n : ℕ) (c : Cell) → length (named_row n c) ≤ 1
row_short n (is.Int (pos zero)) = omega arith
row_short n (is.Int (pos (suc p))) = omega arith
row_short n (is.Int (negsuc k)) = omega arith
row_short n (is.Lgl b) = omega arith
row_short n (is.Text t) = omega arith
row_short n is.Na = omega arith

named_within : (n : ℕ) (cells : List Cell) → All (IsWithin n) (named_rows n cells)
named_within n [] = All-nil (IsWithin n)
named_within n (c ∷ rest) = All-append (IsWithin n) (named_row n c) (named_rows n rest) (row_within n c)
    (named_within n rest)

named_short : (n : ℕ) (cells : List Cell) → length (named_rows n cells) ≤ length cells
named_short n [] = omega arith
named_short n (c ∷ rest) =
    omega (arith, length-append (named_row n c) (named_rows n rest), row_short n c, named_short n rest)

named_fine : (n m : ℕ) (cells : List Cell) → length cells ≤ m → Fine n m (named_rows n cells)
named_fine n m cells h = record { within = named_within n cells; short = omega (arith, named_short n cells) }

left_fine : (n m : ℕ) (cells : List Cell) → n ≤ m → Fine n m (left_rows n cells)
left_fine n m cells h =
    let test : ℕ → Bool = λ p. not (list_any (leaves_out p) cells) in
    record { within = rows_within test n; short = omega (arith, rows_short test n) }

place_fine : (n m : ℕ) (cells : List Cell) → n ≤ m → length cells ≤ m → IfOk (by_place n cells) (Fine n m)
place_fine n m cells h k =
    either n m (not (list_any is_below_zero cells)) _ _
    (λ _. named_fine n m cells k)
    (λ _. either n m (list_all is_below_or_zero cells) _ _ (λ _. left_fine n m cells h) (λ _. tt))

-- ---- Any i

fine : (n m : ℕ) (v : Vector) → n ≤ m → length v.cells ≤ m → IfOk (chosen n v) (Fine n m)
fine n m v h k =
    elim v.kind as (λ t. IfOk (chosen_by t n v.cells) (Fine n m)) [
      | ty.Lgl ↦ truth_fine n m v.cells h
      | ty.Int ↦ place_fine n m v.cells h k
      | ty.Chr ↦ tt
    ]

-- what is so of the definition's answer is so of the answer
pub answered_within : {T : Type 0} (view : T → Places) (n m : ℕ) (v : Vector) (r : Result T EvalFail) →
    AnswersAs view (chosen n v) r → n ≤ m → length v.cells ≤ m → IfOk r (λ t. All (IsWithin n) (view t))
answered_within view n m v (Ok t) e h k =
    let P : Result Places Fault → Type 0 = λ o. IfOk o (Fine n m) in
    let is : Fine n m (view t) = subst P e (fine n m v h k) in is.within
answered_within view n m v (Err f) e h k = tt

pub answered_short : {T : Type 0} (view : T → Places) (n m : ℕ) (v : Vector) (r : Result T EvalFail) →
    AnswersAs view (chosen n v) r → n ≤ m → length v.cells ≤ m → IfOk r (λ t. length (view t) ≤ m)
answered_short view n m v (Ok t) e h k =
    let P : Result Places Fault → Type 0 = λ o. IfOk o (Fine n m) in
    let is : Fine n m (view t) = subst P e (fine n m v h k) in is.short
answered_short view n m v (Err f) e h k = tt
