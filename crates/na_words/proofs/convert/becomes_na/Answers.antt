use Rattle.std.proofs.Common.{sym}
use Rattle.na_words.proofs.Warnings.{lgls_na, ints_na}
use Rattle.na_words.proofs.convert.becomes_na.Goals as goal

pub returns-in-Lgl : goal.returns-in-Lgl
returns-in-Lgl g c = rw c.in-Lgl.is (sym (lgls_na g.W.Word.kind c.in-Lgl.field-0.now))

pub returns-in-Int : goal.returns-in-Int
returns-in-Int g c = rw c.in-Int.is (sym (ints_na g.W.Word.kind c.in-Int.field-0.now))
