-- The step of a look-up: the row at i, and those behind it.
use Rattle.std.proofs.Common.{◌≡◌, ◌<◌, ◌+◌, ℕ, List, ◌∷◌, length, map, drop, get_or, Option, Some, true, false}
use Rattle.std.proofs.Common.{Bor, refl, ap, ◌∙◌, add-one, drop-cons}
use Rattle.std.specs.Str.{bytes_eq}
use Rattle.func_table.specs.Rows.{looked}
use Rattle.func_table.specs.Seen.{row_seen}

-- what the rows from i on say of the word w
abbrev pub left : {A : Type 0} → List ℕ → List (Bor (List ℕ) × A) → ℕ → Option A
left w rows i = looked w (map row_seen (drop i rows))

at : {X : Type 0} (xs : List X) (i : ℕ) (x : X) → i < length xs → x ≡ get_or xs i x → drop i xs ≡ x ∷ drop (i + 1) xs
at xs i x l e = drop-cons xs i x l ∙ rw (add-one i, ← e) refl

-- the row at i has the word
pub row_found : {A : Type 0} (w : List ℕ) (rows : List (Bor (List ℕ) × A)) (i : ℕ) (x : Bor (List ℕ) × A)
    → i < length rows → x ≡ get_or rows i x → bytes_eq w x.0.now ≡ true → left w rows i ≡ Some x.1
row_found w rows i x l e t = ap (λ r. looked w (map row_seen r)) (at rows i x l e) ∙ rw t refl

-- it has another
pub row_passed : {A : Type 0} (w : List ℕ) (rows : List (Bor (List ℕ) × A)) (i : ℕ) (x : Bor (List ℕ) × A)
    → i < length rows → x ≡ get_or rows i x → bytes_eq w x.0.now ≡ false → left w rows i ≡ left w rows (i + 1)
row_passed w rows i x l e t = ap (λ r. looked w (map row_seen r)) (at rows i x l e) ∙ rw t refl
