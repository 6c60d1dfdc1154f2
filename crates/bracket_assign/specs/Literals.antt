-- A right side that is one literal.
--   is_lone_literal r    one literal is what all names get, with `-` before an integer allowed
--   nothing vars         what an expression meets where there is no column and no row
use Rattle.std.specs.Prelude.{Bool, true, false, []}
use Rattle.expr_model.specs.Surroundings.{Env, Vars, in_rows, no_columns}
use Rattle.session_model.specs.Assigned.{RightSide, ForAll, ForEach, Deletes}
use Rattle.session_model.specs.Form.{is_literal}

abbrev pub is_lone_literal : RightSide → Bool
is_lone_literal (ForAll i) = is_literal i.form
is_lone_literal _ = false

abbrev pub nothing : Vars → Env
nothing vars = in_rows no_columns [] vars
