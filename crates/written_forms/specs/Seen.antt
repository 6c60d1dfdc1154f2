-- What contracts see of an expression as it is written.
--   form_seen w     the form
use Rattle.std.specs.Prelude.{neg_ℤ}
use Rattle.dt_base.specs.Cell.{seen}
use Rattle.session_model.specs.Form.{Form}
use Rattle.session_model.specs.Form as form
use Rattle.written_forms.specs.declared.written.Written.{Written}
use Rattle.written_forms.specs.declared.written.Written.TheVariants as written

abbrev pub form_seen : Written → Form
form_seen (written.Literal c kind) = form.Literal (seen c) kind
form_seen (written.Negated n) = form.Negative (neg_ℤ n)
form_seen written.NullWord = form.NullWord
form_seen written.InfWord = form.InfWord
form_seen (written.BareName name) = form.BareName name.now
form_seen (written.NotName name) = form.NotName name.now
form_seen (written.MinusName name) = form.MinusName name.now
form_seen written.MinusInf = form.MinusInf
form_seen (written.Compares o x y) = form.Compares o x.now y.now
form_seen (written.Formula left right) = form.Formula left.now right.now
form_seen written.Other = form.Other
