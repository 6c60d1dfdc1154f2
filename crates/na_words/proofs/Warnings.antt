-- Columns that cannot warn when they are brought to another type.
use Rattle.std.proofs.Common.{◌≡◌, ◌∙◌, ℕ, ℤ, Bool, true, false, cond, ◌||◌, ◌==◌, negsuc, ◌^◌, ◌-◌, List, [], ◌∷◌, map}
use Rattle.std.proofs.Common.{Option, None, Some, refl, ap}
use Rattle.std.specs.List.{list_any}
use Rattle.std.specs.Ordering.{int_eq}
use Rattle.dt_base.specs.declared.cell.Cell.{Cell}
use Rattle.dt_base.specs.declared.cell.Cell.TheVariants as is
use Rattle.dt_base.specs.declared.cell.ColType.{ColType}
use Rattle.dt_base.specs.declared.cell.ColType.TheVariants as ty
use Rattle.dt_model.specs.Coercion.{becomes_true, becomes_na}
use Rattle.na_vector.specs.Words.{int_cell, lgl_cell, text_cell}

-- a test that fails at each word fails everywhere
never : {X : Type 0} (test : Cell → Bool) (c : X → Cell) → ((x : X) → test (c x) ≡ false) → (xs : List X)
    → list_any test (map c xs) ≡ false
never test c h [] = refl
never test c h (x ∷ xs) = ap (λ b. b || list_any test (map c xs)) (h x) ∙ never test c h xs

lgl_true : (t : ColType) (b : ℕ) → becomes_true t (lgl_cell b) ≡ false
lgl_true ty.Lgl b = elim (b == 2) as (λ v. becomes_true ty.Lgl (cond v is.Na (is.Lgl (b == 1))) ≡ false) [
  | true ↦ refl
  | false ↦ refl
]
lgl_true ty.Int b = elim (b == 2) as (λ v. becomes_true ty.Int (cond v is.Na (is.Lgl (b == 1))) ≡ false) [
  | true ↦ refl
  | false ↦ refl
]
lgl_true ty.Chr b = elim (b == 2) as (λ v. becomes_true ty.Chr (cond v is.Na (is.Lgl (b == 1))) ≡ false) [
  | true ↦ refl
  | false ↦ refl
]

lgl_na : (t : ColType) (b : ℕ) → becomes_na t (lgl_cell b) ≡ false
lgl_na t b = elim (b == 2) as (λ v. becomes_na t (cond v is.Na (is.Lgl (b == 1))) ≡ false) [
  | true ↦ refl
  | false ↦ refl
]

int_true_int : (n : ℤ) → becomes_true ty.Int (int_cell n) ≡ false
int_true_int n = elim (int_eq n (negsuc (2 ^ 63 - 1))) as (λ v. becomes_true ty.Int (cond v is.Na (is.Int n)) ≡ false) [
  | true ↦ refl
  | false ↦ refl
]

int_true_text : (n : ℤ) → becomes_true ty.Chr (int_cell n) ≡ false
int_true_text n = elim (int_eq n (negsuc (2 ^ 63 - 1))) as (λ v. becomes_true ty.Chr (cond v is.Na (is.Int n))
    ≡ false) [ true ↦ refl | false ↦ refl ]

int_na : (t : ColType) (n : ℤ) → becomes_na t (int_cell n) ≡ false
int_na t n = elim (int_eq n (negsuc (2 ^ 63 - 1))) as (λ v. becomes_na t (cond v is.Na (is.Int n)) ≡ false) [
  | true ↦ refl
  | false ↦ refl
]

text_true : (t : ColType) (s : Option (List ℕ)) → becomes_true t (text_cell s) ≡ false
text_true ty.Lgl None = refl
text_true ty.Lgl (Some s) = refl
text_true ty.Int None = refl
text_true ty.Int (Some s) = refl
text_true ty.Chr None = refl
text_true ty.Chr (Some s) = refl

-- logicals never warn
pub lgls_true : (t : ColType) (words : List ℕ) → list_any (becomes_true t) (map lgl_cell words) ≡ false
lgls_true t words = never (becomes_true t) lgl_cell (lgl_true t) words

pub lgls_na : (t : ColType) (words : List ℕ) → list_any (becomes_na t) (map lgl_cell words) ≡ false
lgls_na t words = never (becomes_na t) lgl_cell (lgl_na t) words

-- integers become TRUE only where they are brought to logicals
pub ints_true_int : (words : List ℤ) → list_any (becomes_true ty.Int) (map int_cell words) ≡ false
ints_true_int words = never (becomes_true ty.Int) int_cell int_true_int words

pub ints_true_text : (words : List ℤ) → list_any (becomes_true ty.Chr) (map int_cell words) ≡ false
ints_true_text words = never (becomes_true ty.Chr) int_cell int_true_text words

pub ints_na : (t : ColType) (words : List ℤ) → list_any (becomes_na t) (map int_cell words) ≡ false
ints_na t words = never (becomes_na t) int_cell (int_na t) words

-- texts never become TRUE by mistake
pub texts_true : (t : ColType) (texts : List (Option (List ℕ)))
    → list_any (becomes_true t) (map text_cell texts) ≡ false
texts_true t texts = never (becomes_true t) text_cell (text_true t) texts
