-- What contracts see of forms.
--   not_name_in f    the name behind `!`, where that is all that is written
use Rattle.std.specs.Prelude.{List, ℕ, Option, None, Some}
use Rattle.session_model.specs.Form.{Form, NotName}

-- the name behind `!`
abbrev pub not_name_in : Form → Option (List ℕ)
not_name_in (NotName name) = Some name
not_name_in _ = None
