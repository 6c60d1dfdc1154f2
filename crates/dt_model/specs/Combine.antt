-- Vectors in a row, as `c` puts them.
--   common_of kinds     the one type that is common to all
--   total_length vs     how many cells they have together
--   cells_as t vs       all their cells in order, each brought to the type t
--   in_a_row vs         all their cells in the common type
--   combined a b        the cells of two vectors in a row, unless they are too many
-- All cells are brought to one type at once: TRUE beside an integer and a text is "TRUE".
use Rattle.std.specs.Prelude.{ℕ, ◌+◌, nat_lt, if◌then◌else◌, List, [], ◌∷◌, ◌++◌, length, map, Result, Ok, Err}
use Rattle.dt_base.specs.declared.cell.Cell.{Cell}
use Rattle.dt_base.specs.declared.cell.ColType.{ColType}
use Rattle.dt_base.specs.declared.cell.ColType.TheVariants as ty
use Rattle.dt_base.specs.declared.limits.TheConstants.{MAX_ROWS}
use Rattle.dt_model.specs.Coercion.{common, brought}
use Rattle.dt_model.specs.Operations.{OpFault, TooManyRows}
use Rattle.dt_model.specs.Vector.{Vector}

-- the type that is common to a type and these
abbrev pub common_from : ColType → List ColType → ColType
common_from t [] = t
common_from t (u ∷ rest) = common_from (common t u) rest

-- the type that is common to all; Lgl is the lowest
abbrev pub common_of : List ColType → ColType
common_of kinds = common_from ty.Lgl kinds

abbrev pub kinds_of : List Vector → List ColType
kinds_of vs = map (λ v. v.kind) vs

-- how many cells the vectors have together
abbrev pub total_length : List Vector → ℕ
total_length [] = 0
total_length (v ∷ rest) = length v.cells + total_length rest

-- all cells in order, each brought to the type
abbrev pub cells_as : ColType → List Vector → List Cell
cells_as t [] = []
cells_as t (v ∷ rest) = map (brought t) v.cells ++ cells_as t rest

-- all cells in the common type
abbrev pub in_a_row : List Vector → Vector
in_a_row vs = record { kind = common_of (kinds_of vs); cells = cells_as (common_of (kinds_of vs)) vs }

-- two vectors, which may have 16,777,216 cells together
abbrev pub combined : Vector → Vector → Result Vector OpFault
combined a b =
    if nat_lt MAX_ROWS (total_length (a ∷ b ∷ [])) then Err TooManyRows else Ok (in_a_row (a ∷ b ∷ []))
