use Rattle.std.proofs.Common.{sym}
use Rattle.na_words.proofs.Warnings.{lgls_true, ints_true_int, ints_true_text, texts_true}
use Rattle.na_words.proofs.convert.becomes_true.Goals as goal

pub returns-in-Lgl : goal.returns-in-Lgl
returns-in-Lgl c = rw c.in-Lgl.is (sym (lgls_true c.args.to c.in-Lgl.field-0.now))

pub returns-in-Chr : goal.returns-in-Chr
returns-in-Chr c = rw c.in-Chr.is (sym (texts_true c.args.to c.in-Chr.field-0.now))

pub returns-in-Int-to : goal.returns-in-Int-to
returns-in-Int-to c = rw (c.in-Int.is, c.in-Int-to.is) (sym (ints_true_int c.in-Int.x.now))

pub returns-in-Chr-to : goal.returns-in-Chr-to
returns-in-Chr-to c = rw (c.in-Int.is, c.in-Chr-to.is) (sym (ints_true_text c.in-Int.x.now))
