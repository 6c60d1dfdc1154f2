-- The change of targets that have no fault fits the table.
use Rattle.std.proofs.Common.{◌≡◌, ◌+◌, ◌*◌, ◌<◌, ◌≤◌, ◌++◌, ◌==◌, not, ℕ, true, false, Bool, List, [], ◌∷◌, length}
use Rattle.std.proofs.Common.{All, None, Some, Option, nat_lt, refl, sym, ap, ◌∙◌, subst, arith, inl, inr}
use Rattle.std.specs.List.{AllByRecursion, IsDistinct, filter}
use Rattle.std.specs.Str.{bytes_eq}
use Rattle.std.specs.Cmp.Lexicographic.{nat_list_eq_equiv}
use Rattle.std.proofs.lemmas.Bool.{and_parts, cases_Bool, cases_eq, eqb-false, ltb-false, ne_eqb, eq-eqb, not-true}
use Rattle.std.proofs.lemmas.Bool.{or_parts}
use Rattle.std.proofs.lemmas.List.{length-map}
use Rattle.std.proofs.lemmas.List.Elements.{All-append, All-from_recursion, recursion_from_All}
use Rattle.std.proofs.lemmas.Map.Keys.{IsDistinct-cons, IsDistinct-head, IsDistinct-tail}
use Rattle.dt_model.specs.Table.{is_repeated, name_at}
use Rattle.dt_model.specs.Vector.{Vector}
use Rattle.na_vector.specs.Frame.{vectors_of}
use Rattle.dt_table.specs.Change.{FitsPart, FitsTable, PartSeen, Replace, Write, Add, Delete, cols_of, is_of}
use Rattle.dt_table.specs.Change.{names_changed}
use Rattle.dt_table.specs.Table.{IsFilled, IsNames, IsTable, TableSeen}
use Rattle.dt_table.proofs.Names.{IsDistinct-from_none, find_none}
use Rattle.assign_model.specs.Targets.{AssignFault, Rows, Slots, Cells, Target, adds, assign_fault, fault_or, is_name}
use Rattle.assign_model.specs.Targets.{limit_fault, names_after, names_of, target_fault, targets_fault}
use Rattle.assign_ref.specs.Planned.{part_of, parts_of}
use Rattle.assign_ref.proofs.Columns.{added_found, names_found, of_target, same_name}

-- ---- No fault of a target

no_cols : IsDistinct (λ (a b : ℕ). a == b) []
unfolding IsDistinct
no_cols = tt

pub none_left : (a b : Option AssignFault) → fault_or a b ≡ None → (a ≡ None) × (b ≡ None)
none_left None b e = (refl, e)
none_left (Some f) b e = cc

not_repeated : (names : List (List ℕ)) (n : ℕ) (rows : Rows) (all : List Target) (k : ℕ) (t : Target)
    → target_fault names n rows all k t ≡ None → is_repeated (names_of all) k ≡ false
not_repeated names n rows all k t e = elim (cases_Bool (is_repeated (names_of all) k))
    [ inl hit ↦ (let some = rw hit at e in cc) | inr miss ↦ miss ]

none_repeated : (names : List (List ℕ)) (n : ℕ) (rows : Rows) (all : List Target) (k : ℕ) (ts : List Target)
    → targets_fault names n rows all k ts ≡ None → (j : ℕ) → k ≤ j → j < k + length ts → is_repeated (names_of all) j
    ≡ false
none_repeated names n rows all k [] e j le lt = absurd (omega arith)
none_repeated names n rows all k (t ∷ ts) e j le lt =
    let both = none_left (target_fault names n rows all k t) (targets_fault names n rows all (k + 1) ts) e in
    elim (cases_eq k j) [
      | inl here ↦ ap (is_repeated (names_of all)) (sym here) ∙ not_repeated names n rows all k t both.0
      | inr past ↦ none_repeated names n rows all (k + 1) ts both.1 j (omega (arith, past)) (omega arith)
    ]

-- no name stands twice
pub once_named : (names : List (List ℕ)) (n : ℕ) (rows : Rows) (ts : List Target) → targets_fault names n rows ts 0 ts
    ≡ None → IsDistinct bytes_eq (names_of ts)
once_named names n rows ts e =
    IsDistinct-from_none (names_of ts) (find_none (is_repeated (names_of ts)) (length (names_of ts)) 0
    (λ j le lt. none_repeated names n rows ts 0 ts e j le
    (let long : length (names_of ts) ≡ length ts = length-map ts (λ (t : Target). t.name) in omega arith)))

-- the limits hold
pub within_limits : (n slots width : ℕ) → limit_fault n slots width ≡ None → (width ≤ slots) × (n * width ≤ 67108864)
within_limits n slots width e =
    elim (cases_Bool (nat_lt slots width)) [
      | inl hit ↦ (let some : Some Slots ≡ None = rw hit at e in cc)
      | inr miss ↦ (let rest = rw miss at e in
          elim (cases_Bool (nat_lt 67108864 (n * width))) [
            | inl over ↦ (let some : Some Cells ≡ None = rw over at rest in cc)
            | inr under ↦ (ltb-false slots width miss, ltb-false 67108864 (n * width) under)
          ])
    ]

-- ---- No two parts name one column

cols_apart : (c : ℕ) (p : PartSeen) (ps : List PartSeen) → is_of c p ≡ false
    → AllByRecursion (λ y. (c == y) ≡ false) (cols_of ps) → AllByRecursion (λ y. (c == y) ≡ false) (cols_of (p ∷ ps))
cols_apart c (Replace d with) ps e rest = (flip d c e, rest)
  where
    flip : (a b : ℕ) → (a == b) ≡ false → (b == a) ≡ false
    flip a b h = ne_eqb b a (λ (s : b ≡ a). eqb-false a b h (sym s))
cols_apart c (Write d at cells) ps e rest = (flip d c e, rest)
  where
    flip : (a b : ℕ) → (a == b) ≡ false → (b == a) ≡ false
    flip a b h = ne_eqb b a (λ (s : b ≡ a). eqb-false a b h (sym s))
cols_apart c (Add name with) ps e rest = rest
cols_apart c (Delete d) ps e rest = (flip d c e, rest)
  where
    flip : (a b : ℕ) → (a == b) ≡ false → (b == a) ≡ false
    flip a b h = ne_eqb b a (λ (s : b ≡ a). eqb-false a b h (sym s))

once_cons : (t : TableSeen) (p : PartSeen) (ps : List PartSeen) → FitsPart t p
    → ((c : ℕ) → is_of c p ≡ true → c < length t.names → AllByRecursion (λ y. (c == y) ≡ false) (cols_of ps))
    → IsDistinct (λ (a b : ℕ). a == b) (cols_of ps) → IsDistinct (λ (a b : ℕ). a == b) (cols_of (p ∷ ps))
once_cons t (Replace d with) ps fits apart rest = IsDistinct-cons (λ (a b : ℕ). a == b) d (cols_of ps)
    (apart d (eq-eqb d d refl) fits.0) rest
once_cons t (Write d at cells) ps fits apart rest = IsDistinct-cons (λ (a b : ℕ). a == b) d (cols_of ps)
    (apart d (eq-eqb d d refl) fits.0) rest
once_cons t (Add name with) ps fits apart rest = rest
once_cons t (Delete d) ps fits apart rest = IsDistinct-cons (λ (a b : ℕ). a == b) d (cols_of ps)
    (apart d (eq-eqb d d refl) fits) rest

module _ (t : TableSeen) (n : ℕ) (rows : Rows) (vectors : List Vector) (d : IsDistinct bytes_eq t.names) where
  parts_apart : (ts : List Target) (c : ℕ) → c < length t.names
      → AllByRecursion (λ x. bytes_eq (name_at t.names c) x ≡ false) (names_of ts)
      → AllByRecursion (λ y. (c == y) ≡ false) (cols_of (parts_of n rows t.names vectors ts))
  parts_apart [] c lt h = tt
  parts_apart (u ∷ ts) c lt h = cols_apart c (part_of n rows t.names vectors u) (parts_of n rows t.names vectors ts)
      (of_target n rows t.names vectors c u.name u.value d lt ∙ h.0) (parts_apart ts c lt h.1)

  pub parts_once : (ts : List Target) → IsDistinct bytes_eq (names_of ts)
      → AllByRecursion (FitsPart t) (parts_of n rows t.names vectors ts)
      → IsDistinct (λ (a b : ℕ). a == b) (cols_of (parts_of n rows t.names vectors ts))
  parts_once [] once fits = no_cols
  parts_once (u ∷ ts) once fits =
      once_cons t (part_of n rows t.names vectors u) (parts_of n rows t.names vectors ts) fits.0
      (λ c of lt.
      let hit : bytes_eq (name_at t.names c) u.name ≡ true = sym
      (of_target n rows t.names vectors c u.name u.value d lt) ∙ of in
      let same : u.name ≡ name_at t.names c = sym (same_name (name_at t.names c) u.name hit) in
      parts_apart ts c lt (subst (λ (q : List ℕ). AllByRecursion (λ x. bytes_eq q x ≡ false) (names_of ts)) same
      (IsDistinct-head bytes_eq u.name (names_of ts) once)))
      (parts_once ts (IsDistinct-tail bytes_eq u.name (names_of ts) once) fits.1)

-- ---- Names

filter_all : (P : List ℕ → Type 0) (p : Target → Bool) (ts : List Target) → AllByRecursion P (names_of ts)
    → AllByRecursion P (names_of (filter p ts))
filter_all P p [] h = tt
filter_all P p (u ∷ ts) h = elim (cases_Bool (p u)) [
  | inl hit ↦ rw hit (h.0, filter_all P p ts h.1)
  | inr miss ↦ rw
      miss (filter_all P p ts h.1)
]

filter_once : (p : Target → Bool) (ts : List Target) → IsDistinct bytes_eq (names_of ts)
    → IsDistinct bytes_eq (names_of (filter p ts))
filter_once p [] h = h
filter_once p (u ∷ ts) h =
    let rest = filter_once p ts (IsDistinct-tail bytes_eq u.name (names_of ts) h) in
    elim (cases_Bool (p u)) [
      | inl hit ↦ rw hit (IsDistinct-cons bytes_eq u.name (names_of (filter p ts))
          (filter_all (λ y. bytes_eq u.name y ≡ false) p ts (IsDistinct-head bytes_eq u.name (names_of ts) h)) rest)
      | inr miss ↦ rw miss rest
    ]

-- a new column's name is none that is there
not_there : (q : List ℕ) (names : List (List ℕ)) → is_name names q ≡ false
    → AllByRecursion (λ x. bytes_eq x q ≡ false) names
not_there q [] e = tt
not_there q (x ∷ names) e = let both = or_parts (bytes_eq q x) (is_name names q) e in
    (nat_list_eq_equiv.symm x q ∙ both.0, not_there q names both.1)

new_names : (names : List (List ℕ)) (ts : List Target) → AllByRecursion
    (λ q. AllByRecursion (λ x. bytes_eq x q ≡ false) names) (names_of (filter (adds names) ts))
new_names names [] = tt
new_names names (u ∷ ts) =
    elim (cases_Bool (adds names u)) [
      | inl hit ↦ (let both = and_parts _ (not (is_name names u.name)) hit in rw hit
          (not_there u.name names (not-true (is_name names u.name) both.1), new_names names ts))
      | inr miss ↦ rw miss (new_names names ts)
    ]

heads_apart : (x : List ℕ) (names ys : List (List ℕ)) → AllByRecursion
    (λ q. AllByRecursion (λ y. bytes_eq y q ≡ false) (x ∷ names)) ys → AllByRecursion (λ q. bytes_eq x q ≡ false) ys
heads_apart x names [] h = tt
heads_apart x names (y ∷ ys) h = (h.0.0, heads_apart x names ys h.1)

tails_apart : (x : List ℕ) (names ys : List (List ℕ)) → AllByRecursion
    (λ q. AllByRecursion (λ y. bytes_eq y q ≡ false) (x ∷ names)) ys
    → AllByRecursion (λ q. AllByRecursion (λ y. bytes_eq y q ≡ false) names) ys
tails_apart x names [] h = tt
tails_apart x names (y ∷ ys) h = (h.0.1, tails_apart x names ys h.1)

all_append : (P : List ℕ → Type 0) (xs ys : List (List ℕ)) → AllByRecursion P xs → AllByRecursion P ys
    → AllByRecursion P (xs ++ ys)
all_append P [] ys h k = k
all_append P (x ∷ xs) ys h k = (h.0, all_append P xs ys h.1 k)

names_once : (names ys : List (List ℕ)) → IsDistinct bytes_eq names → IsDistinct bytes_eq ys
    → AllByRecursion (λ q. AllByRecursion (λ x. bytes_eq x q ≡ false) names) ys → IsDistinct bytes_eq (names ++ ys)
names_once [] ys d e h = e
names_once (x ∷ names) ys d e h =
    IsDistinct-cons bytes_eq x (names ++ ys) (all_append (λ y. bytes_eq x y ≡ false) names ys
    (IsDistinct-head bytes_eq x names d) (heads_apart x names ys h))
    (names_once names ys (IsDistinct-tail bytes_eq x names d) e (tails_apart x names ys h))

pub names_fit : (names : List (List ℕ)) (ts : List Target) → IsNames names → IsDistinct bytes_eq (names_of ts)
    → All IsFilled (names_of ts) → IsNames (names ++ names_of (filter (adds names) ts))
names_fit names ts h once filled = record {
  filled = All-append IsFilled names (names_of (filter (adds names) ts)) h.filled
      (All-from_recursion IsFilled (names_of (filter (adds names) ts))
      (filter_all IsFilled (adds names) ts (recursion_from_All IsFilled (names_of ts) filled)));
  distinct = names_once names (names_of (filter (adds names) ts)) h.distinct (filter_once (adds names) ts once)
      (new_names names ts);
}

-- ---- The change

pub change_fits : (t : TableSeen) (rows : Rows) (ts : List Target) → IsTable t → All IsFilled (names_of ts)
    → assign_fault t.names t.frame.rows t.slots rows ts ≡ None
    → All (FitsPart t) (parts_of t.frame.rows rows t.names (vectors_of t.frame.columns) ts)
    → FitsTable t (record { parts = parts_of t.frame.rows rows t.names (vectors_of t.frame.columns) ts })
change_fits t rows ts h filled none fits =
    let n = t.frame.rows in
    let vs = vectors_of t.frame.columns in
    let ps = parts_of n rows t.names vs ts in
    let both = none_left (targets_fault t.names n rows ts 0 ts)
    (limit_fault n t.slots (length (names_after t.names ts))) none in
    let once : IsDistinct bytes_eq (names_of ts) = once_named t.names n rows ts both.0 in
    let limits = within_limits n t.slots (length (names_after t.names ts)) both.1 in
    let names : names_changed ps t.names ≡ names_after t.names ts = names_found n rows t.names vs h.names.distinct ts in
    record {
      parts = fits;
      once = parts_once t n rows vs h.names.distinct ts once (recursion_from_All (FitsPart t) ps fits);
      names = rw (added_found n rows t.names vs h.names.distinct ts) (names_fit t.names ts h.names once filled);
      width = rw names limits.0;
      cells = rw names limits.1;
    }
