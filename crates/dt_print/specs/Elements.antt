-- What stands in a printed vector for one of its words: a blank and the element.
--   int_part w, lgl_part w, text_part t
use Rattle.std.specs.Prelude.{ℕ, ℤ, List, ◌∷◌, Option}
use Rattle.na_vector.specs.Words.{int_cell, lgl_cell, text_cell}
use Rattle.run_model.specs.Printed.{element}

-- a word of an integer column
abbrev pub int_part : ℤ → List ℕ
int_part w = 32 ∷ element (int_cell w)

-- a word of a logical column
abbrev pub lgl_part : ℕ → List ℕ
lgl_part w = 32 ∷ element (lgl_cell w)

-- a text of a text column, or NA
abbrev pub text_part : Option (List ℕ) → List ℕ
text_part t = 32 ∷ element (text_cell t)
