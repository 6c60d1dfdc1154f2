-- The words of a column as contracts see them.
--   shown w            the vector that these words are
--   IsShown w          logical words are 0, 1 or 2, and there are at most 16,777,216 words
--   vector_from t cs   the vector of this type with these cells
use Rattle.std.specs.Prelude.{◌≤◌, List, All, length}
use Rattle.dt_base.specs.declared.cell.Cell.{Cell}
use Rattle.dt_base.specs.declared.cell.ColType.{ColType}
use Rattle.dt_base.specs.declared.limits.TheConstants.{MAX_ROWS}
use Rattle.dt_model.specs.Vector.{Vector}
use Rattle.na_vector.specs.Words.{int_vector, lgl_vector, text_vector, IsLglWord}
use Rattle.na_words.specs.declared.words.Words.{Words}
use Rattle.na_words.specs.declared.words.Words.TheVariants.{Lgl, Int, Chr}

-- the vector of this type with these cells
abbrev pub vector_from : ColType → List Cell → Vector
vector_from t cells = record { kind = t; cells = cells }

-- the vector that the words of a column are
abbrev pub shown : Words → Vector
shown (Lgl words) = lgl_vector words.now
shown (Int words) = int_vector words.now
shown (Chr texts) = text_vector texts.now

-- logical words are 0, 1 or 2, and there are at most 16,777,216 words
abbrev pub IsShown : Words → Type 0
IsShown (Lgl words) = All IsLglWord words.now × (length words.now ≤ MAX_ROWS)
IsShown (Int words) = length words.now ≤ MAX_ROWS
IsShown (Chr texts) = length texts.now ≤ MAX_ROWS
