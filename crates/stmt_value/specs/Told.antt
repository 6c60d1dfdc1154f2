-- The answer of a call that values, against its definition.
--   Told held s f r    where files tell what they hold, r is the answer of f in this setting
use Rattle.std.specs.Prelude.{Option, IsSome, Result}
use Rattle.dt_base.specs.declared.fault.Fault.{Fault}
use Rattle.dt_world.specs.Told.{FileMap}
use Rattle.file_value.specs.Answers.{Gives}
use Rattle.file_value.specs.declared.fail.ValueFail.{ValueFail}
use Rattle.session_model.specs.Value as model
use Rattle.stmt_value.specs.Values.{plain_given, scene}
use Rattle.stmt_value.specs.declared.given.Given.{Given}
use Rattle.stmt_setting.specs.declared.setting.Setting.{Setting}

abbrev pub Told : Option FileMap → Setting → (model.Scene → Result model.Given Fault) → Result Given ValueFail → Type 0
Told held s f r = IsSome held → Gives (plain_given s.heap.now) (f (scene held s)) r
