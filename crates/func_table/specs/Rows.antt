-- Rows of tables: a word, and what it names.
--   looked w rows    what the first row with the word w names
--   words_of rows    the words of the rows
use Rattle.std.specs.Prelude.{List, ℕ, [], ◌∷◌, cond, Option, None, Some}
use Rattle.std.specs.Str.{bytes_eq}

-- what the first row with this word names
abbrev pub looked : {A : Type 0} → List ℕ → List (List ℕ × A) → Option A
looked w [] = None
looked w (row ∷ rest) = cond (bytes_eq w row.0) (Some row.1) (looked w rest)
