-- The names of a header: as many as its fields, none empty, and none twice.
use Rattle.std.proofs.Common.{◌≡◌, ◌<◌, ◌+◌, ◌^◌, ◌++◌, ℕ, List, [], ◌∷◌, Bool, true, false, not, cond, All, length}
use Rattle.std.proofs.Common.{unwrap_or, Some, None, find, refl, sym, inl, inr, arith, length-append, decimal}
use Rattle.std.specs.List.{range_with_len}
use Rattle.std.proofs.lemmas.Bool.{cases_lt}
use Rattle.std.proofs.lemmas.List.{take-append-le, get_or_append_left}
use Rattle.std.proofs.lemmas.List.Elements.{All-append}
use Rattle.std.proofs.Math.Seq.{get_or-append_seam, take-append_seam}
use Rattle.dt_model.specs.Table.{is_repeated, first_repeated}
use Rattle.dt_table.specs.Table.{IsFilled}
use Rattle.dt_table.proofs.Names.{miss_from_none, find_none}
use Rattle.header_names.proofs.NameFacts.{not_all_old}
use Rattle.run_model.specs.CsvNames.{base_name, is_among, numbered, least_new, new_name, names_after, column_names}

-- ---- a name that is made new is new

-- what a search finds passes its test
found_passes : (p : ℕ → Bool) (xs : List ℕ) (k : ℕ) → find p xs ≡ Some k → p k ≡ true
found_passes p [] k e = cc
found_passes p (x ∷ xs) k e =
    (elim (p x) as (λ b. p x ≡ b → cond b (Some x) (find p xs) ≡ Some k → p k ≡ true) [
      | true ↦ λ h s. (let same : x ≡ k = cc in rw (← same) h)
      | false ↦ λ h s. found_passes p xs k s
    ]) refl e

not_old : (b : Bool) → not b ≡ true → b ≡ false
not_old true e = sym e
not_old false e = refl

old_by : (b : Bool) → not b ≡ false → b ≡ true
old_by true e = refl
old_by false e = sym e

-- one of the numbers makes the name new
pub least_is_new : (names : List (List ℕ)) (n : List ℕ) → length names < 2 ^ 63
    → is_among (numbered n (least_new names n)) names ≡ false
least_is_new names n small =
    let new : ℕ → Bool = λ k. not (is_among (numbered n k) names) in
    (elim (find new (range_with_len 1 (length names + 1))) as (λ o. find new (range_with_len 1 (length names + 1)) ≡ o
    → is_among (numbered n (unwrap_or o 0)) names ≡ false) [
      | None ↦ λ e. absurd (not_all_old names n small
          (λ j low high. old_by (is_among (numbered n j) names)
          (miss_from_none new (length names + 1) 1 e j low (omega arith))))
      | Some k ↦ λ e. not_old (is_among (numbered n k) names)
          (found_passes new (range_with_len 1 (length names + 1)) k e)
    ]) refl

pub new_is_new : (names : List (List ℕ)) (n : List ℕ) → length names < 2 ^ 63
    → is_among (new_name names n) names ≡ false
new_is_new names n small =
    (elim (is_among n names) as (λ b. is_among n names ≡ b
    → is_among (cond b (numbered n (least_new names n)) n) names ≡ false) [
      | true ↦ λ _. least_is_new names n small
      | false ↦ λ e. e
    ]) refl

-- ---- none twice

-- no name stands before itself
abbrev pub Apart : List (List ℕ) → Type 0
Apart names = (c : ℕ) → c < length names → is_repeated names c ≡ false

apart_more : (names : List (List ℕ)) (n : List ℕ) → is_among n names ≡ false → Apart names → Apart (names ++ n ∷ [])
apart_more names n fresh apart c h =
    elim (cases_lt c (length names)) [
      | inl lt ↦ rw (get_or_append_left names (n ∷ []) [] c lt, take-append-le c names (n ∷ []) (omega arith))
          (apart c lt)
      | inr ge ↦ (let e : c ≡ length names = omega (arith, length-append names (n ∷ [])) in
          rw (e, get_or-append_seam names n [] [], take-append_seam names (n ∷ [])) fresh)
    ]

pub names_after-apart : (hs names : List (List ℕ)) → length names + length hs < 2 ^ 63 → Apart names
    → Apart (names_after names hs)
names_after-apart [] names small apart = apart
names_after-apart (h ∷ hs) names small apart =
    let n = new_name names (base_name (length names + 1) h) in
    names_after-apart hs (names ++ n ∷ []) (omega (arith, length-append names (n ∷ [])))
    (apart_more names n (new_is_new names (base_name (length names + 1) h) (omega arith)) apart)

pub column_names-apart : (hs : List (List ℕ)) → length hs < 2 ^ 63 → first_repeated (column_names hs) ≡ None
column_names-apart hs small =
    let apart = names_after-apart hs [] (omega arith) (λ c h. absurd (omega arith)) in
    find_none (is_repeated (column_names hs)) (length (column_names hs)) 0 (λ j l h. apart j (omega arith))

-- ---- as many as the headers, and none empty

pub names_after-length : (hs names : List (List ℕ)) → length (names_after names hs) ≡ length names + length hs
names_after-length [] names = omega arith
names_after-length (h ∷ hs) names =
    let n = new_name names (base_name (length names + 1) h) in
    omega (arith, names_after-length hs (names ++ n ∷ []), length-append names (n ∷ []))

base_filled : (p : ℕ) (h : List ℕ) → IsFilled (base_name p h)
base_filled p [] = omega arith
base_filled p (b ∷ rest) = omega arith

numbered_filled : (n : List ℕ) (k : ℕ) → IsFilled (numbered n k)
numbered_filled n k = omega (arith, length-append n (46 ∷ decimal k))

new_filled : (names : List (List ℕ)) (n : List ℕ) → IsFilled n → IsFilled (new_name names n)
new_filled names n h =
    elim (is_among n names) as (λ b. IsFilled (cond b (numbered n (least_new names n)) n)) [
      | true ↦ numbered_filled n (least_new names n)
      | false ↦ h
    ]

filled_more : (names : List (List ℕ)) (n : List ℕ) → All IsFilled names → IsFilled n → All IsFilled (names ++ n ∷ [])
filled_more names n all one = All-append IsFilled names (n ∷ []) all (λ k d h. let e : k ≡ 0 = omega arith in rw e one)

pub names_after-filled : (hs names : List (List ℕ)) → All IsFilled names → All IsFilled (names_after names hs)
names_after-filled [] names all = all
names_after-filled (h ∷ hs) names all =
    let base = base_name (length names + 1) h in
    names_after-filled hs (names ++ new_name names base ∷ [])
    (filled_more names (new_name names base) all (new_filled names base (base_filled (length names + 1) h)))

pub column_names-filled : (hs : List (List ℕ)) → All IsFilled (column_names hs)
column_names-filled hs = names_after-filled hs [] (λ k d h. absurd (omega arith))
