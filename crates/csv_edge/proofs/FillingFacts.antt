-- What fields tell of types, and columns that gain fields.
use Rattle.std.proofs.Common.{◌≡◌, ◌<◌, ◌++◌, ◌||◌, ◌⊎◌, ℕ, ℤ, List, [], ◌∷◌, Bool, true, false, map, length, replicate}
use Rattle.std.proofs.Common.{Some, None, refl, sym, subst, ◌∙◌, inl, inr, append_assoc, arith, true≢false}
use Rattle.std.proofs.Common.{if◌then◌else◌, is_some}
use Rattle.std.specs.Global.{Global}
use Rattle.std.specs.List.{list_all, list_any}
use Rattle.std.specs.Prelude.{Vec, codes}
use Rattle.std.specs.Str.{bytes_eq}
use Rattle.std.proofs.lemmas.Bool.{and_parts, and_right, both_ways}
use Rattle.std.proofs.lemmas.List.{append-nil, map-append}
use Rattle.std.proofs.lemmas.List.Elements.{All-push, All-replicate}
use Rattle.std.proofs.lemmas.List.Folds.{list_all-append}
use Rattle.header_names.proofs.NameFacts.{same_text}
use Rattle.csv_edge.specs.Filling.{Holds, Gains, IsSound, filled_vector}
use Rattle.csv_edge.specs.declared.filling.Filling.{Filling}
use Rattle.csv_edge.specs.declared.filling.Filling.TheVariants.{Missing, Lgl, Int, Chr, Late}
use Rattle.dt_base.specs.declared.cell.Cell.{Cell}
use Rattle.dt_base.specs.declared.cell.Cell.TheVariants as cell
use Rattle.dt_base.specs.declared.cell.ColType.TheVariants as ty
use Rattle.dt_base.specs.declared.limits.TheConstants.{NA_WORD}
use Rattle.dt_model.specs.Spelling.{field_truth}
use Rattle.na_vector.specs.Words.{int_cell, lgl_cell, IsLglWord}
use Rattle.run_model.specs.CsvCells.{is_missing, suits, field_cell, fields_vector}

-- ---- one field

pub either : (a b : Bool) → (a || b) ≡ true → (a ≡ true) ⊎ (b ≡ true)
either true b e = inl refl
either false b e = inr e

-- what is so of a list's texts
abbrev pub EachIs : (List ℕ → Type 0) → List (List ℕ) → Type 0
EachIs P [] = Unit {0}
EachIs P (w ∷ ws) = P w × EachIs P ws

-- is so of a text that is one of them
pub any_is : (P : List ℕ → Type 0) (f : List ℕ) (ws : List (List ℕ)) → EachIs P ws
    → list_any (bytes_eq f) ws ≡ true → P f
any_is P f [] h e = absurd (true≢false (sym e))
any_is P f (w ∷ ws) h e = elim (either (bytes_eq f w) (list_any (bytes_eq f) ws) e) [
  | inl one ↦ subst P (sym (same_text f w one)) h.0
  | inr more ↦ any_is P f ws h.1 more
]

-- a field that tells no type is empty or NA
pub missing_is : (P : List ℕ → Type 0) → P [] → P (codes "NA") → (f : List ℕ) → is_missing f ≡ true → P f
missing_is P empty na f e = elim (either (bytes_eq f []) (bytes_eq f (codes "NA")) e) [
  | inl one ↦ subst P (sym (same_text f [] one)) empty
  | inr one ↦ subst P (sym (same_text f (codes "NA") one)) na
]

missing_lgl : (f : List ℕ) → is_missing f ≡ true → field_cell ty.Lgl f ≡ cell.Na
missing_lgl = missing_is (λ f. field_cell ty.Lgl f ≡ cell.Na) refl refl

missing_int : (f : List ℕ) → is_missing f ≡ true → field_cell ty.Int f ≡ cell.Na
missing_int = missing_is (λ f. field_cell ty.Int f ≡ cell.Na) refl refl

missing_suits_lgl : (f : List ℕ) → is_missing f ≡ true → suits ty.Lgl f ≡ true
missing_suits_lgl f e = rw e refl

missing_suits_int : (f : List ℕ) → is_missing f ≡ true → suits ty.Int f ≡ true
missing_suits_int f e = rw e refl

pub named : (a b : Bool) → is_some (if a then Some true else (if b then Some false else None)) ≡ true
    → (a ≡ true) ⊎ (b ≡ true)
named true b e = inl refl
named false true e = inr refl
named false false e = absurd (true≢false (sym e))

abbrev pub trues : List (List ℕ)
trues = codes "TRUE" ∷ codes "true" ∷ codes "True" ∷ []

abbrev pub falses : List (List ℕ)
falses = codes "FALSE" ∷ codes "false" ∷ codes "False" ∷ []

-- a truth word is no integer
truth_not_int : (f : List ℕ) → is_some (field_truth f) ≡ true → suits ty.Int f ≡ false
truth_not_int f e = elim (named (list_any (bytes_eq f) trues) (list_any (bytes_eq f) falses) e) [
  | inl one ↦ any_is (λ f. suits ty.Int f ≡ false) f trues (refl, (refl, (refl, tt))) one
  | inr one ↦ any_is (λ f. suits ty.Int f ≡ false) f falses (refl, (refl, (refl, tt))) one
]

-- a field that tells a type suits logicals or integers, and not both
apart : (f : List ℕ) → is_missing f ≡ false → suits ty.Lgl f ≡ true → suits ty.Int f ≡ false
apart f told e = elim (either (is_missing f) (is_some (field_truth f)) e) [
  | inl one ↦ absurd (both_ways (is_missing f) told one)
  | inr one ↦ truth_not_int f one
]

-- ---- one field more

all_more : (p : List ℕ → Bool) (fs : List (List ℕ)) (f : List ℕ) → list_all p fs ≡ true → p f ≡ true
    → list_all p (fs ++ f ∷ []) ≡ true
all_more p fs f a b = rw (list_all-append p fs (f ∷ []), a, b) refl

not_here : (p : List ℕ → Bool) (fs : List (List ℕ)) (f : List ℕ) → p f ≡ false → list_all p (fs ++ f ∷ []) ≡ false
not_here p fs f b = rw (list_all-append p fs (f ∷ []), b) (and_right (list_all p fs) false refl)

all_suit : (p q : List ℕ → Bool) → ((f : List ℕ) → p f ≡ true → q f ≡ true) → (fs : List (List ℕ))
    → list_all p fs ≡ true → list_all q fs ≡ true
all_suit p q each [] e = refl
all_suit p q each (f ∷ fs) e =
    let parts = and_parts (p f) (list_all p fs) e in rw (each f parts.0, all_suit p q each fs parts.1) refl

-- the words of fields that tell no type
missing_lgls : (fs : List (List ℕ)) → list_all is_missing fs ≡ true
    → map lgl_cell (replicate (length fs) 2) ≡ map (field_cell ty.Lgl) fs
missing_lgls [] e = refl
missing_lgls (f ∷ fs) e =
    let parts = and_parts (is_missing f) (list_all is_missing fs) e in
    rw (missing_lgl f parts.0, missing_lgls fs parts.1) refl

missing_ints : (fs : List (List ℕ)) → list_all is_missing fs ≡ true
    → map int_cell (replicate (length fs) NA_WORD) ≡ map (field_cell ty.Int) fs
missing_ints [] e = refl
missing_ints (f ∷ fs) e =
    let parts = and_parts (is_missing f) (list_all is_missing fs) e in
    rw (missing_int f parts.0, missing_ints fs parts.1) refl

first_cells : {X : Type 0} (c : X → Cell) (g : List ℕ → Cell) (fs : List (List ℕ)) (f : List ℕ) (n : ℕ) (na w : X)
    (words : List X)
    → n ≡ length fs → map c (replicate (length fs) na) ≡ map g fs → c w ≡ g f → words ≡ replicate n na ++ w ∷ []
    → map c words ≡ map g (fs ++ f ∷ [])
first_cells c g fs f n na w words count before here made =
    rw (made, count, map-append c (replicate (length fs) na) (w ∷ []), before, here, map-append g fs (f ∷ [])) refl

-- ---- a field in the first reading

pub missing_to_lgl : (n w : ℕ) (words : Vec ℕ Global) (f : List ℕ) → is_missing f ≡ false → suits ty.Lgl f ≡ true
    → lgl_cell w ≡ field_cell ty.Lgl f → w < 3
    → words.items ≡ replicate n 2 ++ w ∷ [] → Gains false (Missing n) (Lgl words) (f ∷ [])
missing_to_lgl n w words f told e here low made = record {
  holds = λ typed texts none h. (
    all_more (suits ty.Lgl) typed f (all_suit is_missing (suits ty.Lgl) missing_suits_lgl typed h.0) e,
    not_here (suits ty.Int) typed f (apart f told e),
    first_cells lgl_cell (field_cell ty.Lgl) typed f n 2 w words.items h.1 (missing_lgls typed h.0) here made,
    rw made (All-push IsLglWord (replicate n 2) w (All-replicate IsLglWord n 2 (omega arith)) low),
  );
}

pub missing_to_int : (n : ℕ) (w : ℤ) (words : Vec ℤ Global) (f : List ℕ) → suits ty.Lgl f ≡ false
    → suits ty.Int f ≡ true → int_cell w ≡ field_cell ty.Int f
    → words.items ≡ replicate n NA_WORD ++ w ∷ [] → Gains false (Missing n) (Int words) (f ∷ [])
missing_to_int n w words f not_lgl e here made = record {
  holds = λ typed texts none h. (
    not_here (suits ty.Lgl) typed f not_lgl,
    all_more (suits ty.Int) typed f (all_suit is_missing (suits ty.Int) missing_suits_int typed h.0) e,
    first_cells int_cell (field_cell ty.Int) typed f n NA_WORD w words.items h.1 (missing_ints typed h.0) here made,
  );
}

-- ---- fields one after the other

pub gains_none : (again : Bool) (w : Filling) → Gains again w w []
gains_none true w = record { holds = λ typed texts none h. rw (append-nil typed, append-nil texts) h }
gains_none false w = record { holds = λ typed texts none h. rw (append-nil typed, append-nil texts) h }

pub gains_next : (again : Bool) (a b c : Filling) (x : List ℕ) (xs : List (List ℕ)) → Gains again a b (x ∷ [])
    → Gains again b c xs → Gains again a c (x ∷ xs)
gains_next true a b c x xs first rest = record {
  holds = λ typed texts none h.
      let one = first.holds typed texts none h in
      let two = rest.holds (typed ++ []) (texts ++ x ∷ []) (λ e. absurd (true≢false e)) one in
      let same : (texts ++ x ∷ []) ++ xs ≡ texts ++ x ∷ xs = append_assoc texts (x ∷ []) xs in
      subst (λ t. Holds c t (texts ++ x ∷ xs)) (append-nil (typed ++ []))
      (subst (λ t. Holds c ((typed ++ []) ++ []) t) same two);
}
gains_next false a b c x xs first rest = record {
  holds = λ typed texts none h.
      let one = first.holds typed texts none h in
      let two = rest.holds (typed ++ x ∷ []) (texts ++ []) (λ e. append-nil texts ∙ none e) one in
      let same : (typed ++ x ∷ []) ++ xs ≡ typed ++ x ∷ xs = append_assoc typed (x ∷ []) xs in
      subst (λ t. Holds c t (texts ++ [])) same
      (subst (λ t. Holds c ((typed ++ x ∷ []) ++ xs) t) (append-nil (texts ++ [])) two);
}

-- a column that was empty, and got all fields in both readings
pub filled_twice : (w0 w1 w2 : Filling) (fs : List (List ℕ)) → w0 ≡ Missing 0 → Gains false w0 w1 fs
    → Gains true w1 w2 fs → Holds w2 fs fs
filled_twice w0 w1 w2 fs e first second =
    let start : Holds w0 [] [] = rw e (refl, refl) in
    let one = first.holds [] [] (λ _. refl) start in
    let two = second.holds fs [] (λ e. absurd (true≢false e)) one in
    subst (λ t. Holds w2 t fs) (append-nil fs) two

-- ---- a column of all fields

-- it has the vector of the fields
pub holds_vector : (w : Filling) (fs : List (List ℕ)) → Holds w fs fs → filled_vector w ≡ fields_vector fs
holds_vector (Missing n) fs h = rw (
  h.1,
  all_suit is_missing (suits ty.Lgl) missing_suits_lgl fs h.0,
  missing_lgls fs h.0,
) refl
holds_vector (Lgl words) fs h = rw (h.0, h.2) refl
holds_vector (Int words) fs h = rw (h.0, h.1, h.2) refl
holds_vector (Chr words) fs h = rw (h.0, h.1, h.2) refl
holds_vector (Late words) fs h = rw (h.0, h.1, h.2) refl

pub holds_sound : (w : Filling) (fs : List (List ℕ)) → Holds w fs fs → IsSound w
holds_sound (Missing n) fs h = tt
holds_sound (Lgl words) fs h = h.3
holds_sound (Int words) fs h = tt
holds_sound (Chr words) fs h = tt
holds_sound (Late words) fs h = tt
