-- The least and the greatest cell, and the best of the cells so far.
--   beats side t a b        a is taken before b: it is less, or greater, in the order of type t
--   extreme_value side ..   `min` or `max` of a vector
--   standing cells o        the cell at a place, if there is one
--   takes beats cells p o   the cell at p is taken before the one at o, or is not NA where there is none
--   after beats cells p o   the place of the better one of the two
use Rattle.std.specs.Prelude.{ℕ, Bool, not, List, Option, None, Some, Result, if◌then◌else◌}
use Rattle.dt_base.specs.declared.cell.Cell.{Cell}
use Rattle.dt_base.specs.declared.cell.ColType.{ColType}
use Rattle.dt_base.specs.declared.fault.Fault.{Fault}
use Rattle.dt_model.specs.Coercion.{is_na}
use Rattle.dt_model.specs.Vector.{Vector, cell_at}
use Rattle.vector_model.specs.Functions.{Valued, extreme_type, is_before, extreme_cells}
use Rattle.vec_funcs.specs.declared.extremes.Side.{Side}
use Rattle.vec_funcs.specs.declared.extremes.Side.TheVariants.{Least, Greatest}

-- the lesser cell, or the greater one, is taken
abbrev pub beats : Side → ColType → Cell → Cell → Bool
beats Least t a b = is_before t a b
beats Greatest t a b = is_before t b a

-- `min` or `max` of a vector
abbrev pub extreme_value : Side → Bool → Vector → Result Valued Fault
extreme_value side na_rm x = extreme_cells (beats side (extreme_type x.kind)) (extreme_type x.kind) na_rm x.cells

-- the cell at a place
abbrev pub standing : List Cell → Option ℕ → Option Cell
standing cells None = None
standing cells (Some p) = Some (cell_at cells p)

-- the cell at a place is better than the best so far
abbrev pub takes : (Cell → Cell → Bool) → List Cell → ℕ → Option ℕ → Bool
takes beats cells p None = not (is_na (cell_at cells p))
takes beats cells p (Some b) = beats (cell_at cells p) (cell_at cells b)

-- the place of the better one
abbrev pub after : (Cell → Cell → Bool) → List Cell → ℕ → Option ℕ → Option ℕ
after beats cells p o = if takes beats cells p o then Some p else o
