-- Places of columns after others are gone.
use Rattle.std.proofs.Common.{sym, ◌∙◌, ◌≡◌, ◌+◌, ◌<◌, ◌≤◌, ◌==◌, ℕ, zero, suc, false, List, [], ◌∷◌, ◌++◌, length}
use Rattle.std.proofs.Common.{map, get_or, None, arith, refl, ap, inl, inr}
use Rattle.std.specs.List.{AllByRecursion, IsDistinct, list_any}
use Rattle.std.specs.Str.{bytes_eq}
use Rattle.std.proofs.lemmas.Bool.{cases_Bool, cases_lt, eqb-false, ne_eqb, or_parts}
use Rattle.std.proofs.lemmas.List.{get_or_append_left}
use Rattle.std.proofs.lemmas.List.Elements.{All-from_recursion, recursion_from_All}
use Rattle.std.proofs.lemmas.Map.Keys.{IsDistinct-cons, IsDistinct-head, IsDistinct-tail}
use Rattle.dt_model.specs.Table.{name_at, names_at}
use Rattle.dt_table.specs.Change.{PartSeen, cut, goes, is_named, is_of, kept, key_changed, part_at, stays_before}
use Rattle.dt_table.specs.Table.{IsColumnList, IsFilled, IsNames}

-- equal in both places
pub ap2 : {A B C : Type 0} (f : A → B → C) {a a' : A} {b b' : B} → a ≡ a' → b ≡ b' → f a b ≡ f a' b'
ap2 f e g = rw (e, g) refl

-- ---- Places

-- a column that no part names stays
pub free_at : (c : ℕ) (ps : List PartSeen) → is_named ps c ≡ false → part_at c ps ≡ None
free_at c [] e = refl
free_at c (p ∷ ps) e = let both = or_parts (is_of c p) (is_named ps c) e in rw both.0 (free_at c ps both.1)

pub free_stays : (ps : List PartSeen) (c : ℕ) → is_named ps c ≡ false → goes ps c ≡ false
free_stays ps c e = rw (free_at c ps e) refl

-- no fewer columns stay before a later place
sb_more : (ps : List PartSeen) (d : ℕ) → stays_before ps d ≤ stays_before ps (suc d)
sb_more ps d = elim (cases_Bool (goes ps d)) [ inl hit ↦ rw hit (omega arith) | inr miss ↦ rw miss (omega arith) ]

-- more columns stay before a place behind one that stays
pub place_less : (ps : List PartSeen) (c d : ℕ) → goes ps c ≡ false → c < d → stays_before ps c < stays_before ps d
place_less ps c zero e lt = absurd (omega arith)
place_less ps c (suc d) e lt =
    elim (cases_lt c d) [
      | inl below ↦ (let so : stays_before ps c < stays_before ps d = place_less ps c d e below in let more = sb_more
          ps d in omega arith)
      | inr above ↦ (let same : c ≡ d = omega arith in
          let one : stays_before ps (suc d) ≡ suc (stays_before ps d) = rw (← same, e) refl in
          let here : stays_before ps c ≡ stays_before ps d = ap (stays_before ps) same in
          omega arith)
    ]

-- as many columns stay
kept_count : {X : Type 0} (ps : List PartSeen) (c : ℕ) (xs : List X) → length (kept ps c xs) + stays_before ps c
    ≡ stays_before ps (c + length xs)
kept_count ps c [] = (let e : c ≡ c + 0 = omega arith in let same : stays_before ps c
    ≡ stays_before ps (c + 0) = ap (stays_before ps) e in omega arith)
kept_count {X = X} ps c (x ∷ xs) =
    let rest : length (kept ps (c + 1) xs) + stays_before ps (c + 1)
    ≡ stays_before ps ((c + 1) + length xs) = kept_count ps (c + 1) xs in
    let next : stays_before ps (c + 1) ≡ stays_before ps (suc c) =
    (let e : c + 1 ≡ suc c = omega arith in ap (stays_before ps) e) in
    let end : stays_before ps ((c + 1) + length xs) ≡ stays_before ps (c + suc (length xs)) =
    (let e : (c + 1) + length xs ≡ c + suc (length xs) = omega arith in ap (stays_before ps) e) in
    elim (cases_Bool (goes ps c)) [
      | inl hit ↦ (let same : stays_before ps (suc c) ≡ stays_before ps c = rw hit refl in rw hit (omega arith))
      | inr miss ↦ (let one : stays_before ps (suc c) ≡ suc (stays_before ps c) = rw miss refl in rw miss (omega arith))
    ]

pub kept_counts : {X : Type 0} (ps : List PartSeen) (xs : List X) → length (kept ps 0 xs) ≡ stays_before ps (length xs)
kept_counts ps xs =
    let all : length (kept ps 0 xs) + 0 ≡ stays_before ps (0 + length xs) = kept_count ps 0 xs in
    let e : 0 + length xs ≡ length xs = omega arith in
    let same : stays_before ps (0 + length xs) ≡ stays_before ps (length xs) = ap (stays_before ps) e in
    omega arith

-- a column that stays has its place among those that stay
kept_at : {X : Type 0} (ps : List PartSeen) (c i j : ℕ) (xs : List X) (d : X) → i < length xs → goes ps (c + i)
    ≡ false → j + stays_before ps c ≡ stays_before ps (c + i) → get_or (kept ps c xs) j d ≡ get_or xs i d
kept_at ps c i j [] d lt stay e = absurd (omega arith)
kept_at ps c zero j (x ∷ xs) d lt stay e =
    let here : c + 0 ≡ c = omega arith in
    let stays : goes ps c ≡ false = ap (goes ps) (sym here) ∙ stay in
    let same : stays_before ps (c + 0) ≡ stays_before ps c = ap (stays_before ps) here in
    let first : j ≡ 0 = omega arith in
    rw (stays, first) refl
kept_at ps c (suc i) zero (x ∷ xs) d lt stay e =
    let next : (c + 1) + i ≡ c + suc i = omega arith in
    elim (cases_Bool (goes ps c)) [
      | inl hit ↦ (let one : c + 1 ≡ suc c = omega arith in
          let same : stays_before ps (c + 1) ≡ stays_before ps c = ap (stays_before ps) one ∙ rw hit refl in
          let end : stays_before ps ((c + 1) + i) ≡ stays_before ps (c + suc i) = ap (stays_before ps) next in
          rw hit (kept_at ps (c + 1) i zero xs d (omega arith) (ap (goes ps) next ∙ stay) (omega arith)))
      | inr miss ↦ (let less : stays_before ps c < stays_before ps (c + suc i) = place_less ps c (c + suc i) miss
          (omega arith) in absurd (omega arith))
    ]
kept_at ps c (suc i) (suc j) (x ∷ xs) d lt stay e =
    let next : (c + 1) + i ≡ c + suc i = omega arith in
    let one : c + 1 ≡ suc c = omega arith in
    let end : stays_before ps ((c + 1) + i) ≡ stays_before ps (c + suc i) = ap (stays_before ps) next in
    elim (cases_Bool (goes ps c)) [
      | inl hit ↦ (let same : stays_before ps (c + 1) ≡ stays_before ps c = ap (stays_before ps) one ∙ rw hit refl in
          rw hit (kept_at ps (c + 1) i (suc j) xs d (omega arith) (ap (goes ps) next ∙ stay) (omega arith)))
      | inr miss ↦ (let more : stays_before ps (c + 1) ≡ suc (stays_before ps c) = ap (stays_before ps) one
          ∙ rw miss refl in
          rw miss (kept_at ps (c + 1) i j xs d (omega arith) (ap (goes ps) next ∙ stay) (omega arith)))
    ]

pub kept_place : {X : Type 0} (ps : List PartSeen) (xs : List X) (i : ℕ) (d : X) → i < length xs → goes ps i ≡ false
    → get_or (kept ps 0 xs) (stays_before ps i) d ≡ get_or xs i d
kept_place ps xs i d lt stay =
    let e : 0 + i ≡ i = omega arith in
    let same : stays_before ps (0 + i) ≡ stays_before ps i = ap (stays_before ps) e in
    kept_at ps 0 i (stays_before ps i) xs d lt (ap (goes ps) e ∙ stay) (omega arith)

-- the names of columns that stay are as they were
pub names_moved : (ps : List PartSeen) (names added : List (List ℕ)) (cols : List ℕ)
    → AllByRecursion (λ c. is_named ps c ≡ false) cols → AllByRecursion (λ c. c < length names) cols
    → names_at (kept ps 0 names ++ added) (map (stays_before ps) cols) ≡ names_at names cols
names_moved ps names added [] free range = refl
names_moved ps names added (c ∷ cols) free range =
    let stay : goes ps c ≡ false = free_stays ps c free.0 in
    let less : stays_before ps c < stays_before ps (length names) = place_less ps c (length names) stay range.0 in
    let count : length (kept ps 0 names) ≡ stays_before ps (length names) = kept_counts ps names in
    let one : name_at (kept ps 0 names ++ added) (stays_before ps c)
    ≡ name_at names c = get_or_append_left (kept ps 0 names) added [] (stays_before ps c) (omega arith)
    ∙ kept_place ps names c [] range.0 stay in
    ap2 (λ (a : List ℕ) (l : List (List ℕ)). a ∷ l) one (names_moved ps names added cols free.1 range.1)

-- ---- Lists of columns

distinct_places : (ps : List PartSeen) (a b : ℕ) → is_named ps a ≡ false → is_named ps b ≡ false → (a == b) ≡ false
    → (stays_before ps a == stays_before ps b) ≡ false
distinct_places ps a b fa fb e =
    ne_eqb (stays_before ps a) (stays_before ps b) (λ (same : stays_before ps a ≡ stays_before ps b).
    elim (cases_lt a b) [
      | inl below ↦ (let lt : stays_before ps a < stays_before ps b = place_less ps a b (free_stays ps a fa) below in
          absurd (omega arith))
      | inr above ↦ elim (cases_lt b a) [
        | inl over ↦ (let lt : stays_before ps b < stays_before ps a = place_less ps b a (free_stays ps b fb) over in
            absurd (omega arith))
        | inr equal ↦ (let one : a ≡ b = omega arith in absurd (eqb-false a b e one))
      ]
    ])

apart_moved : (ps : List PartSeen) (a : ℕ) (cs : List ℕ) → is_named ps a ≡ false
    → AllByRecursion (λ c. is_named ps c ≡ false) cs → AllByRecursion (λ y. (a == y) ≡ false) cs
    → AllByRecursion (λ y. (stays_before ps a == y) ≡ false) (map (stays_before ps) cs)
apart_moved ps a [] fa free apart = tt
apart_moved ps a (c ∷ cs) fa free apart = (
  distinct_places ps a c fa free.0 apart.0,
  apart_moved ps a cs fa free.1
      apart.1,
)

-- columns that no part names are as distinct by their new places
pub moved_distinct : (ps : List PartSeen) (cs : List ℕ) → AllByRecursion (λ c. is_named ps c ≡ false) cs
    → IsDistinct (λ (a b : ℕ). a == b) cs → IsDistinct (λ (a b : ℕ). a == b) (map (stays_before ps) cs)
moved_distinct ps [] free d = d
moved_distinct ps (c ∷ cs) free d =
    IsDistinct-cons (λ (a b : ℕ). a == b) (stays_before ps c) (map (stays_before ps) cs)
    (apart_moved ps c cs free.0 free.1 (IsDistinct-head (λ (a b : ℕ). a == b) c cs d))
    (moved_distinct ps cs free.1 (IsDistinct-tail (λ (a b : ℕ). a == b) c cs d))

-- and in range
moved_within : {X : Type 0} (ps : List PartSeen) (xs : List X) (cs : List ℕ)
    → AllByRecursion (λ c. is_named ps c ≡ false) cs → AllByRecursion (λ c. c < length xs) cs
    → AllByRecursion (λ c. c < length (kept ps 0 xs)) (map (stays_before ps) cs)
moved_within ps xs [] free range = tt
moved_within {X = X} ps xs (c ∷ cs) free range = (
  (let lt : stays_before ps c < stays_before ps (length xs) = place_less ps c (length xs) (free_stays ps c free.0)
      range.0 in
      let count : length (kept ps 0 xs) ≡ stays_before ps (length xs) = kept_counts ps xs in omega arith),
  moved_within ps xs cs free.1 range.1,
)

within_more : (m n : ℕ) (cs : List ℕ) → m ≤ n → AllByRecursion (λ c. c < m) cs → AllByRecursion (λ c. c < n) cs
within_more m n [] le h = tt
within_more m n (c ∷ cs) le h = ((let lt : c < m = h.0 in omega arith), within_more m n cs le h.1)

pub moved_columns : {X : Type 0} (ps : List PartSeen) (xs : List X) (width : ℕ) (cs : List ℕ)
    → length (kept ps 0 xs) ≤ width → AllByRecursion (λ c. is_named ps c ≡ false) cs → IsColumnList (length xs) cs
    → IsColumnList width (map (stays_before ps) cs)
moved_columns ps xs width cs le free h = record {
  in_range = All-from_recursion (λ c. c < width) (map (stays_before ps) cs)
      (within_more (length (kept ps 0 xs)) width (map (stays_before ps) cs) le
      (moved_within ps xs cs free (recursion_from_All (λ c. c < length xs) cs h.in_range)));
  distinct = moved_distinct ps cs free h.distinct;
}

-- ---- The key

pub cut_free : (ps : List PartSeen) (key : List ℕ) → AllByRecursion (λ c. is_named ps c ≡ false) (cut ps key)
cut_free ps [] = tt
cut_free ps (c ∷ key) = elim (cases_Bool (is_named ps c)) [
  | inl hit ↦ rw hit tt
  | inr miss ↦ rw miss
      (miss, cut_free ps key)
]

pub cut_all : (P : ℕ → Type 0) (ps : List PartSeen) (key : List ℕ) → AllByRecursion P key
    → AllByRecursion P (cut ps key)
cut_all P ps [] h = tt
cut_all P ps (c ∷ key) h = elim (cases_Bool (is_named ps c))
    [ inl hit ↦ rw hit tt | inr miss ↦ rw miss (h.0, cut_all P ps key h.1) ]

nothing_distinct : IsDistinct (λ (a b : ℕ). a == b) []
unfolding IsDistinct
nothing_distinct = tt

cut_distinct : (ps : List PartSeen) (key : List ℕ) → IsDistinct (λ (a b : ℕ). a == b) key
    → IsDistinct (λ (a b : ℕ). a == b) (cut ps key)
cut_distinct ps [] h = h
cut_distinct ps (c ∷ key) h =
    elim (cases_Bool (is_named ps c)) [
      | inl hit ↦ rw hit nothing_distinct
      | inr miss ↦ rw miss (IsDistinct-cons (λ (a b : ℕ). a == b) c (cut ps key)
          (cut_all (λ y. (c == y) ≡ false) ps key (IsDistinct-head (λ (a b : ℕ). a == b) c key h))
          (cut_distinct ps key (IsDistinct-tail (λ (a b : ℕ). a == b) c key h)))
    ]

pub key_columns : {X : Type 0} (ps : List PartSeen) (xs : List X) (width : ℕ) (key : List ℕ)
    → length (kept ps 0 xs) ≤ width → IsColumnList (length xs) key → IsColumnList width (key_changed ps key)
key_columns {X = X} ps xs width key le h =
    moved_columns ps xs width (cut ps key) le (cut_free ps key) (record {
      in_range = All-from_recursion (λ c. c < length xs) (cut ps key)
          (cut_all (λ c. c < length xs) ps key (recursion_from_All (λ c. c < length xs) key h.in_range));
      distinct = cut_distinct ps key h.distinct;
    })

pub none_named : (ps : List PartSeen) (cs : List ℕ) → list_any (is_named ps) cs ≡ false
    → AllByRecursion (λ c. is_named ps c ≡ false) cs
none_named ps [] e = tt
none_named ps (c ∷ cs) e = let both = or_parts (is_named ps c) (list_any (is_named ps) cs) e in
    (both.0, none_named ps cs both.1)

-- ---- Names

kept_all : {X : Type 0} (P : X → Type 0) (ps : List PartSeen) (c : ℕ) (xs ys : List X) → AllByRecursion P (xs ++ ys)
    → AllByRecursion P (kept ps c xs ++ ys)
kept_all P ps c [] ys h = h
kept_all P ps c (x ∷ xs) ys h = elim (cases_Bool (goes ps c))
    [ inl hit ↦ rw hit (kept_all P ps (c + 1) xs ys h.1) | inr miss ↦ rw miss (h.0, kept_all P ps (c + 1) xs ys h.1) ]

kept_distinct : (ps : List PartSeen) (c : ℕ) (xs ys : List (List ℕ)) → IsDistinct bytes_eq (xs ++ ys)
    → IsDistinct bytes_eq (kept ps c xs ++ ys)
kept_distinct ps c [] ys h = h
kept_distinct ps c (x ∷ xs) ys h =
    let rest : IsDistinct bytes_eq (kept ps (c + 1) xs ++ ys) = kept_distinct ps (c + 1) xs ys
    (IsDistinct-tail bytes_eq x (xs ++ ys) h) in
    elim (cases_Bool (goes ps c)) [
      | inl hit ↦ rw hit rest
      | inr miss ↦ rw miss (IsDistinct-cons bytes_eq x (kept ps (c + 1) xs ++ ys)
          (kept_all (λ y. bytes_eq x y ≡ false) ps (c + 1) xs ys (IsDistinct-head bytes_eq x (xs ++ ys) h)) rest)
    ]

pub kept_names : (ps : List PartSeen) (xs ys : List (List ℕ)) → IsNames (xs ++ ys) → IsNames (kept ps 0 xs ++ ys)
kept_names ps xs ys h = record {
  filled = All-from_recursion IsFilled (kept ps 0 xs ++ ys)
      (kept_all IsFilled ps 0 xs ys (recursion_from_All IsFilled (xs ++ ys) h.filled));
  distinct = kept_distinct ps 0 xs ys h.distinct;
}
