-- The lines of a set of warnings, one warning after another.
use Rattle.std.proofs.Common.{◌≡◌, ℕ, Bool, true, false, cond, List, [], ◌∷◌, ◌++◌, refl, ap}
use Rattle.std.specs.Prelude.{filter}
use Rattle.std.specs.List.{flat_map}

-- what the elements that pass a test give, element by element
pub flat_map-filter : {X : Type 0} (f : X → List ℕ) (p : X → Bool) (xs : List X)
    → flat_map f (filter p xs) ≡ flat_map (λ x. cond (p x) (f x) []) xs
flat_map-filter f p [] = refl
flat_map-filter f p (x ∷ xs) =
    elim (p x) as (λ b. flat_map f (cond b (x ∷ filter p xs) (filter p xs)) ≡ cond b (f x) []
    ++ flat_map (λ y. cond (p y) (f y) []) xs)
    [ true ↦ ap (λ r. f x ++ r) (flat_map-filter f p xs) | false ↦ flat_map-filter f p xs ]
