-- What a statement does, against its definition.
--   session_of s       the names, the tables and the options of a setting
--   Does held s f r    where files tell what they hold, r is the effect of f in this setting
use Rattle.std.specs.Prelude.{Option, IsSome, Result}
use Rattle.dt_base.specs.declared.fault.Fault.{Fault}
use Rattle.dt_world.specs.Told.{FileMap}
use Rattle.file_value.specs.Answers.{Gives}
use Rattle.file_value.specs.declared.fail.ValueFail.{ValueFail}
use Rattle.session_model.specs.Effect as model
use Rattle.session_model.specs.Session.{SessionState}
use Rattle.session_model.specs.Value.{Scene}
use Rattle.stmt_change.specs.Effects.{plain_effect}
use Rattle.stmt_change.specs.declared.effect.Effect.{Effect}
use Rattle.stmt_value.specs.Values.{scene}
use Rattle.stmt_setting.specs.declared.setting.Setting.{Setting}
use Rattle.table_heap.specs.State.{state_of}

abbrev pub session_of : Setting → SessionState
session_of s = record { state = state_of s.heap.now; options = s.options }

abbrev pub Does : Option FileMap → Setting → (Scene → Result model.Effect Fault) → Result Effect ValueFail → Type 0
Does held s f r = IsSome held → Gives (plain_effect s.heap.now) (f (scene held s)) r
