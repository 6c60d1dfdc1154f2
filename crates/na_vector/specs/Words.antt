-- The cell that each stored word stands for.
--   int_cell n     a word of an integer column: -2^63 is NA, else the number
--   lgl_cell b     a word of a logical column: 0 is FALSE, 1 is TRUE, 2 is NA
--   text_cell t    a text of a text column: none is NA
--   IsLglWord b    b is 0, 1 or 2
--   text_count c   how many texts the cell holds: 1 for a text, else 0
--   int_vector ns, lgl_vector bs, text_vector ts   the vector of these words
use Rattle.std.specs.Prelude.{◌<◌, ◌-◌, ◌==◌, ◌^◌, ℕ, ℤ, negsuc, cond, List, map, Option, None, Some}
use Rattle.std.specs.Ordering.{int_eq}
use Rattle.dt_base.specs.declared.cell.ColType.TheVariants as ty
use Rattle.dt_model.specs.Vector.{Vector}
use Rattle.dt_base.specs.declared.cell.Cell.{Cell}
use Rattle.dt_base.specs.declared.cell.Cell.TheVariants.{Na, Lgl, Int, Text}

-- -2^63 is NA, and every other word is its number
abbrev pub int_cell : ℤ → Cell
int_cell n = cond (int_eq n (negsuc (2 ^ 63 - 1))) Na (Int n)

-- 2 is NA, 1 is TRUE and 0 is FALSE
abbrev pub lgl_cell : ℕ → Cell
lgl_cell b = cond (b == 2) Na (Lgl (b == 1))

-- none is NA
abbrev pub text_cell : Option (List ℕ) → Cell
text_cell None = Na
text_cell (Some t) = Text t

-- the word is 0, 1 or 2
abbrev pub IsLglWord : ℕ → Type 0
IsLglWord b = b < 3

-- how many texts the cell holds
abbrev pub text_count : Cell → ℕ
text_count (Text _) = 1
text_count _ = 0

-- the integers of these words
abbrev pub int_vector : List ℤ → Vector
int_vector words = record { kind = ty.Int; cells = map int_cell words }

-- the logicals of these words
abbrev pub lgl_vector : List ℕ → Vector
lgl_vector words = record { kind = ty.Lgl; cells = map lgl_cell words }

-- the texts, with NA for none
abbrev pub text_vector : List (Option (List ℕ)) → Vector
text_vector texts = record { kind = ty.Chr; cells = map text_cell texts }
