-- Places, byte by byte.
use Rattle.std.proofs.Common.{◌≡◌, ℕ, ◌+◌, ◌<◌, List, [], ◌∷◌, ◌++◌, length, get_or, take, refl, ap, ◌∙◌}
use Rattle.std.proofs.lemmas.List.{take_more}
use Rattle.dt_tree.specs.declared.token.Place.{Place}
use Rattle.run_model.specs.Places.{moved, moved_over, start, place_at}

pub moved_over-push : (xs : List ℕ) (p : Place) (b : ℕ) → moved_over p (xs ++ b ∷ []) ≡ moved (moved_over p xs) b
moved_over-push [] p b = refl
moved_over-push (x ∷ xs) p b = moved_over-push xs (moved p x) b

pub place_more : (s : List ℕ) (i : ℕ) → i < length s → place_at s (i + 1) ≡ moved (place_at s i) (get_or s i 0)
place_more s i within = ap (moved_over start) (take_more s i 0 within) ∙ moved_over-push (take i s) start (get_or s i 0)
