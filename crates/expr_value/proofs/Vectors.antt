-- The vectors of values, with their columns or without.
use Rattle.std.proofs.Common.{◌≡◌, List, [], ◌∷◌, map, refl, ap}
use Rattle.session_model.specs.Expression as model
use Rattle.valued.specs.Valued.{valued_of, vector_in}
use Rattle.valued.specs.declared.column.Valued.{Valued}

pub same_vectors : (values : List Valued) → map model.vector_in (map valued_of values) ≡ map vector_in values
same_vectors [] = refl
same_vectors (v ∷ values) = ap (λ vs. vector_in v ∷ vs) (same_vectors values)
