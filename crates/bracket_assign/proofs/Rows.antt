-- The rows that are there, one more.
use Rattle.std.proofs.Common.{◌≡◌, ◌<◌, ◌+◌, ◌++◌, ◌∙◌, ℕ, List, [], ◌∷◌, Option, None, Some, length, take, get_or, refl}
use Rattle.std.proofs.Common.{ap, sym}
use Rattle.std.proofs.Common.{All}
use Rattle.std.proofs.lemmas.List.{take_more}
use Rattle.std.proofs.lemmas.List.Elements.{All-from_recursion, recursion_from_All}
use Rattle.std.specs.List.{AllByRecursion}
use Rattle.dt_model.specs.Vector.{IsWithin}
use Rattle.session_model.specs.Assigned.{rows_there}

there_append : (xs ys : List (Option ℕ)) → rows_there (xs ++ ys) ≡ rows_there xs ++ rows_there ys
there_append [] ys = refl
there_append (None ∷ xs) ys = there_append xs ys
there_append (Some p ∷ xs) ys = ap (λ l. p ∷ l) (there_append xs ys)

pub there_more : (rows new : List ℕ) (ps : List (Option ℕ)) (k : ℕ) (d : Option ℕ) → rows ≡ rows_there (take k ps)
    → k < length ps → new ≡ rows ++ rows_there (get_or ps k d ∷ []) → new ≡ rows_there (take (k + 1) ps)
there_more rows new ps k d h lt e =
    e ∙ (ap (λ (l : List ℕ). l ++ rows_there (get_or ps k d ∷ [])) h
    ∙ (sym (there_append (take k ps) (get_or ps k d ∷ [])) ∙ ap rows_there (sym (take_more ps k d lt))))

each_within : (n : ℕ) (ps : List (Option ℕ)) → AllByRecursion (IsWithin n) ps
    → AllByRecursion (λ row. row < n) (rows_there ps)
each_within n [] h = tt
each_within n (None ∷ ps) h = each_within n ps h.1
each_within n (Some p ∷ ps) h = (h.0, each_within n ps h.1)

pub there_within : (n : ℕ) (ps : List (Option ℕ)) → All (IsWithin n) ps → All (λ row. row < n) (rows_there ps)
there_within n ps h =
    All-from_recursion (λ row. row < n) (rows_there ps)
    (each_within n ps (recursion_from_All (IsWithin n) ps h))
