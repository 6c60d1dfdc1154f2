-- The words of a column are within the limit.
use Rattle.std.proofs.Common.{◌≤◌, length, arith}
use Rattle.std.proofs.lemmas.List.{length-map}
use Rattle.na_vector.specs.Words.{int_cell, lgl_cell, text_cell}
use Rattle.na_words.specs.Shown.{shown, IsShown}
use Rattle.na_words.specs.declared.words.Words.{Words}
use Rattle.na_words.specs.declared.words.Words.TheVariants.{Lgl, Int, Chr}

pub shown_short : (w : Words) → IsShown w → length (shown w).cells ≤ 16777216
shown_short (Lgl words) h = omega (arith, length-map words.now lgl_cell, h.1)
shown_short (Int words) h = omega (arith, length-map words.now int_cell, h)
shown_short (Chr texts) h = omega (arith, length-map texts.now text_cell, h)
