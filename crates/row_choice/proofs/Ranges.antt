-- Lists of rows in order: one more row, how many there are, and that each is within.
use Rattle.std.proofs.Common.{◌≡◌, ◌∙◌, ◌≤◌, ◌<◌, ◌+◌, ◌++◌, ℕ, zero, suc, Bool, true, false, if◌then◌else◌, List, []}
use Rattle.std.proofs.Common.{◌∷◌, length, map, All, Some, refl, ap, sym, subst, arith, not, slice_index_or}
use Rattle.std.specs.List.{filter, list_any, range_with_len}
use Rattle.std.proofs.lemmas.List.{map-append}
use Rattle.std.proofs.lemmas.List.Elements.{All-nil, All-cons, filter-append}
use Rattle.std.proofs.lemmas.List.FromFn.{length-map-range_with_len, map-range_with_len_more}
use Rattle.dt_model.specs.Vector.{IsWithin}
use Rattle.dt_base.specs.declared.cell.Cell.{Cell}
use Rattle.row_model.specs.Rows.{Places, all_rows, leaves_out, left_rows, rows_where}

-- one more number
range_more : (a n k : ℕ) → a + n ≡ k → range_with_len a (suc n) ≡ range_with_len a n ++ k ∷ []
range_more a zero k e = let same : a ≡ k = omega arith in ap (λ j. j ∷ []) same
range_more a (suc n) k e = ap (λ xs. a ∷ xs) (range_more (a + 1) n k (omega arith))

to_next : (p : ℕ) → range_with_len 0 (p + 1) ≡ range_with_len 0 p ++ p ∷ []
to_next p = let next : p + 1 ≡ suc p = omega arith in ap (range_with_len 0) next ∙ range_more 0 p p (omega arith)

-- one more row of all
pub all_more : (p : ℕ) (out new : Places) → out ≡ all_rows p → new ≡ out ++ Some p ∷ [] → new ≡ all_rows (p + 1)
all_more p out new before pushed = pushed ∙ ap (λ xs. xs ++ Some p ∷ []) before
    ∙ sym (map-range_with_len_more Some 0 p p (omega arith))

-- the numbers of a range are below its end
some_within : (n a k : ℕ) → a + k ≤ n → All (IsWithin n) (map Some (range_with_len a k))
some_within n a zero h = All-nil (IsWithin n)
some_within n a (suc k) h = All-cons (IsWithin n) (Some a) (map Some (range_with_len (a + 1) k)) (omega arith)
    (some_within n (a + 1) k (omega arith))

pub all_within : (n : ℕ) (xs : Places) → xs ≡ all_rows n → All (IsWithin n) xs
all_within n xs e = subst (All (IsWithin n)) (sym e) (some_within n 0 n (omega arith))

pub all_count : (n : ℕ) (xs : Places) → xs ≡ all_rows n → length xs ≡ n
all_count n xs e = ap length e ∙ length-map-range_with_len Some 0 n

pub ruleset all_of_a_table = (all_more, all_within, all_count)

-- the one row, if it passes
one_row : (test : ℕ → Bool) (p : ℕ) → map Some (filter test (p ∷ [])) ≡ (if test p then Some p ∷ [] else [])
one_row test p = elim (test p) as (λ b. map Some (if b then p ∷ [] else []) ≡ (if b then Some p ∷ [] else [])) [
  | true ↦ refl
  | false ↦ refl
]

-- one more row of those that pass
pub where_more : (test : ℕ → Bool) (p : ℕ) (here : Bool) (out new : Places) → out ≡ rows_where test p → here ≡ test p →
    new ≡ out ++ (if here then Some p ∷ [] else []) → new ≡ rows_where test (p + 1)
where_more test p here out new before e pushed =
    let next : List ℕ = range_with_len 0 p ++ p ∷ [] in
    let more : range_with_len 0 (p + 1) ≡ next = to_next p in
    let last : Bool → Places = λ b. if b then Some p ∷ [] else [] in
    pushed ∙ ap (λ xs. xs ++ last here) before
    ∙ ap (λ b. rows_where test p ++ last b) e
    ∙ ap (λ xs. rows_where test p ++ xs) (sym (one_row test p))
    ∙ sym (map-append Some (filter test (range_with_len 0 p)) (filter test (p ∷ [])))
    ∙ ap (map Some) (sym (filter-append test (range_with_len 0 p) (p ∷ [])))
    ∙ ap (λ xs. map Some (filter test xs)) (sym more)

-- those of a range that pass are below its end, and no more than its numbers
where_within : (test : ℕ → Bool) (n a k : ℕ) → a + k ≤ n
    → All (IsWithin n) (map Some (filter test (range_with_len a k)))
where_within test n a zero h = All-nil (IsWithin n)
where_within test n a (suc k) h =
    let rest = filter test (range_with_len (a + 1) k) in
    let later : All (IsWithin n) (map Some rest) = where_within test n (a + 1) k (omega arith) in
    elim (test a) as (λ b. All (IsWithin n) (map Some (if b then a ∷ rest else rest))) [
      | true ↦ All-cons (IsWithin n) (Some a) (map Some rest) (omega arith) later
      | false ↦ later
    ]

pub rows_within : (test : ℕ → Bool) (n : ℕ) → All (IsWithin n) (rows_where test n)
rows_within test n = where_within test n 0 n (omega arith)

where_short : (test : ℕ → Bool) (a k : ℕ) → length (map Some (filter test (range_with_len a k))) ≤ k
where_short test a zero = omega arith
where_short test a (suc k) =
    let rest = filter test (range_with_len (a + 1) k) in
    let later : length (map Some rest) ≤ k = where_short test (a + 1) k in
    elim (test a) as (λ b. length (map Some (if b then a ∷ rest else rest)) ≤ suc k) [
      | true ↦ omega arith
      | false ↦ omega arith
    ]

pub rows_short : (test : ℕ → Bool) (n : ℕ) → length (rows_where test n) ≤ n
rows_short test n = where_short test 0 n

-- two tests that agree on the rows choose the same rows
where_same : (f g : ℕ → Bool) (a k : ℕ) → ((p : ℕ) → p < a + k → f p ≡ g p)
    → filter f (range_with_len a k) ≡ filter g (range_with_len a k)
where_same f g a zero h = refl
where_same f g a (suc k) h =
    ap (λ b. if b then a ∷ filter f (range_with_len (a + 1) k) else filter f (range_with_len (a + 1) k))
    (h a (omega arith))
    ∙ ap (λ xs. if g a then a ∷ xs else xs) (where_same f g (a + 1) k (λ p lt. h p (omega arith)))

pub rows_same : (f g : ℕ → Bool) (n : ℕ) → ((p : ℕ) → p < n → f p ≡ g p) → rows_where f n ≡ rows_where g n
rows_same f g n h = ap (map Some) (where_same f g 0 n (λ p lt. h p (omega arith)))

-- where each mark says whether the row is left out, the rows without a mark are those that are left
pub unmarked_left : (n : ℕ) (marks : List Bool) (cells : List Cell) → length marks ≡ n →
    ((p : ℕ) → p < length marks → slice_index_or marks p false ≡ list_any (leaves_out p) cells) →
    rows_where (λ p. not (slice_index_or marks p false)) (length marks) ≡ left_rows n cells
unmarked_left n marks cells e h =
    let left : ℕ → Bool = λ p. not (list_any (leaves_out p) cells) in
    rows_same (λ p. not (slice_index_or marks p false)) left (length marks) (λ p lt. ap not (h p lt))
    ∙ ap (rows_where left) e
