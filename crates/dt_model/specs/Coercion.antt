-- How cells and vectors are brought to another type.
--   is_na c              the cell is NA
--   common t u           the common type of two types: the higher of Lgl, Int and Chr
--   to_lgl, to_int, to_text   a cell brought to a logical, an integer, a text
--   brought t c          the cell c brought to the type t
--   becomes_true t c     to bring c to t makes TRUE of an integer that is not 1
--   becomes_na t c       to bring c to t makes NA of a text
--   coerced t v          the vector v brought to the type t
--   coercion_warns t v   the warnings of that: each that some cell of v has
use Rattle.std.specs.Prelude.{ℤ, pos, Bool, true, false, not, ◌&&◌, map, Option, None, Some, if◌then◌else◌}
use Rattle.std.specs.List.{list_any}
use Rattle.std.specs.Ordering.{int_eq}
use Rattle.std.specs.Fmt.{signed_decimal}
use Rattle.dt_base.specs.Warns.{no_warns}
use Rattle.dt_base.specs.declared.cell.Cell.{Cell}
use Rattle.dt_base.specs.declared.cell.Cell.TheVariants as is
use Rattle.dt_base.specs.declared.cell.ColType.{ColType}
use Rattle.dt_base.specs.declared.cell.ColType.TheVariants as ty
use Rattle.dt_base.specs.declared.warns.Warns.{Warns}
use Rattle.dt_model.specs.Spelling.{integer_of, truth_of, truth_text}
use Rattle.dt_model.specs.Vector.{Vector}

-- the cell is NA
abbrev pub is_na : Cell → Bool
is_na is.Na = true
is_na _ = false

-- types rise from Lgl to Int to Chr, and the common type of two is the higher one
abbrev pub common : ColType → ColType → ColType
common ty.Lgl u = u
common ty.Int ty.Lgl = ty.Int
common ty.Int ty.Int = ty.Int
common ty.Int ty.Chr = ty.Chr
common ty.Chr ty.Lgl = ty.Chr
common ty.Chr ty.Int = ty.Chr
common ty.Chr ty.Chr = ty.Chr

-- a truth value as a cell, and NA where there is none
abbrev pub lgl_or_na : Option Bool → Cell
lgl_or_na None = is.Na
lgl_or_na (Some b) = is.Lgl b

-- a whole number as a cell, and NA where there is none
abbrev pub int_or_na : Option ℤ → Cell
int_or_na None = is.Na
int_or_na (Some n) = is.Int n

-- To a logical: 0 becomes FALSE and every other integer TRUE. A text becomes the truth value that it
-- names, and NA where it names none.
abbrev pub to_lgl : Cell → Cell
to_lgl is.Na = is.Na
to_lgl (is.Lgl b) = is.Lgl b
to_lgl (is.Int n) = is.Lgl (not (int_eq n (pos 0)))
to_lgl (is.Text t) = lgl_or_na (truth_of t)

-- To an integer: FALSE becomes 0 and TRUE 1. A text becomes the integer that it spells, and NA where
-- it spells none.
abbrev pub to_int : Cell → Cell
to_int is.Na = is.Na
to_int (is.Lgl b) = is.Int (if b then pos 1 else pos 0)
to_int (is.Int n) = is.Int n
to_int (is.Text t) = int_or_na (integer_of t)

-- To a text: a logical becomes TRUE or FALSE, and an integer its decimal digits.
abbrev pub to_text : Cell → Cell
to_text is.Na = is.Na
to_text (is.Lgl b) = is.Text (truth_text b)
to_text (is.Int n) = is.Text (signed_decimal n)
to_text (is.Text t) = is.Text t

-- a cell brought to a type: NA stays NA, and a cell of the type stays as it is
abbrev pub brought : ColType → Cell → Cell
brought ty.Lgl c = to_lgl c
brought ty.Int c = to_int c
brought ty.Chr c = to_text c

-- an integer that is neither 0 nor 1 becomes TRUE
abbrev pub becomes_true : ColType → Cell → Bool
becomes_true ty.Lgl (is.Int n) = not (int_eq n (pos 0)) && not (int_eq n (pos 1))
becomes_true ty.Lgl (is.Lgl b) = false
becomes_true ty.Lgl (is.Text t) = false
becomes_true ty.Lgl is.Na = false
becomes_true ty.Int c = false
becomes_true ty.Chr c = false

-- a text becomes NA
abbrev pub becomes_na : ColType → Cell → Bool
becomes_na t (is.Text s) = is_na (brought t (is.Text s))
becomes_na t (is.Lgl b) = false
becomes_na t (is.Int n) = false
becomes_na t is.Na = false

-- each cell brought to the type
abbrev pub coerced : ColType → Vector → Vector
coerced t v = record { kind = t; cells = map (brought t) v.cells }

-- a vector's warnings are those that some cell of it has
abbrev pub coercion_warns : ColType → Vector → Warns
coercion_warns t v = record no_warns {
  w01 = list_any (becomes_true t) v.cells;
  w02 = list_any (becomes_na t) v.cells;
}
