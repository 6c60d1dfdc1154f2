-- A plain word computes through the command's grammar as a variable.
use Rattle.std.proofs.Common.{◌≡◌, ℕ, List, [], ◌∷◌, codes, true, false, ◌==◌, refl, None, Some}
use Rattle.std.specs.Str.{bytes_eq}
use Rattle.clap.specs.Lexer.{strip_byte}
use Rattle.clap.specs.Words.{takes}
use Rattle.clap.proofs.OnLiterals.{clap_on_literals}
use Rattle.dt_run.specs.Words.{dtq, asked, AsksFor}

takes_alone : (w : List ℕ) → strip_byte 45 w ≡ None → bytes_eq w (45 ∷ 45 ∷ []) ≡ false
    → takes dtq (codes "dtq" ∷ w ∷ []) ≡ true
unfolding clap_on_literals
takes_alone w none other = rw (none, other, none) refl

takes_check : (w : List ℕ) → strip_byte 45 w ≡ None → bytes_eq w (45 ∷ 45 ∷ []) ≡ false
    → takes dtq (codes "dtq" ∷ codes "--check" ∷ w ∷ []) ≡ true
unfolding clap_on_literals
takes_check w none other = rw (none, other, none) refl

asks_alone : (w : List ℕ) → strip_byte 45 w ≡ None → bytes_eq w (45 ∷ 45 ∷ []) ≡ false
    → asked (w ∷ []) ≡ Some (record { script = w; is_check = false })
unfolding clap_on_literals
asks_alone w none other = rw (none, other, none) refl

asks_check : (w : List ℕ) → strip_byte 45 w ≡ None → bytes_eq w (45 ∷ 45 ∷ []) ≡ false
    → asked (codes "--check" ∷ w ∷ []) ≡ Some (record { script = w; is_check = true })
unfolding clap_on_literals
asks_check w none other = rw (none, other, none) refl

no_dash : (b : ℕ) (rest : List ℕ) → (b == 45) ≡ false → strip_byte 45 (b ∷ rest) ≡ None
no_dash b rest h = rw h refl

no_dashes : (b : ℕ) (rest : List ℕ) → (b == 45) ≡ false → bytes_eq (b ∷ rest) (45 ∷ 45 ∷ []) ≡ false
no_dashes b rest h = rw h refl

pub alone : (b : ℕ) (rest : List ℕ) → (b == 45) ≡ false → AsksFor ((b ∷ rest) ∷ []) (b ∷ rest) false
alone b rest h =
    (takes_alone _ (no_dash b rest h) (no_dashes b rest h), asks_alone _ (no_dash b rest h) (no_dashes b rest h))

pub after_check : (b : ℕ) (rest : List ℕ) → (b == 45) ≡ false
    → AsksFor (codes "--check" ∷ (b ∷ rest) ∷ []) (b ∷ rest) true
after_check b rest h =
    (takes_check _ (no_dash b rest h) (no_dashes b rest h), asks_check _ (no_dash b rest h) (no_dashes b rest h))
