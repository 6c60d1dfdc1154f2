-- What commands do, and what a value that prints does.
--   library_named args    what `library` does
--   removed_by s args     what `rm` does
--   table_command f args s   what a command does that changes a table, or the options
--   value_printed s g     a value prints
use Rattle.std.specs.Prelude.{List, Result, Err}
use Rattle.std.specs.FinMap as finite
use Rattle.dt_base.specs.declared.fault.Fault.{Fault}
use Rattle.dt_model.specs.State.{State}
use Rattle.func_table.specs.declared.formal.Formal.TheVariants as formal
use Rattle.func_table.specs.declared.func.Func.{Func}
use Rattle.func_table.specs.declared.func.Func.TheVariants as func
use Rattle.session_model.specs.Calls.{argument, bare_name, known_package, removed_name}
use Rattle.session_model.specs.Effect.{Effect, prints}
use Rattle.session_model.specs.Meanings.{ArgMeaning}
use Rattle.session_model.specs.Orders.{options_effect, set_index_effect, set_key_effect, set_order_effect}
use Rattle.session_model.specs.Session.{SessionState}
use Rattle.session_model.specs.Set.{set_effect, set_names_effect}
use Rattle.session_model.specs.Value.{Given, printed_value}
use Rattle.vector_model.specs.Faults.{unbuilt}
use Rattle.vector_model.specs.Then.{then_do}

abbrev pub library_named : List ArgMeaning → Result Effect Fault
library_named args = then_do (argument args 0 formal.Package) (λ a. known_package a.form)

abbrev pub removed_by : State → List ArgMeaning → Result Effect Fault
removed_by s args =
    then_do (argument args 0 formal.Name) (λ a.
    then_do (bare_name a.form) (λ name. removed_name name (finite.get s.names name)))

abbrev pub table_command : Func → List ArgMeaning → SessionState → Result Effect Fault
table_command func.Set args s = set_effect args s.state
table_command func.SetNames args s = set_names_effect args s.state
table_command func.SetKey args s = set_key_effect args s.state
table_command func.SetOrder args s = set_order_effect args s.state
table_command func.SetIndex args s = set_index_effect args s.state
table_command func.SetOptions args s = options_effect args s.options
table_command _ args s = Err unbuilt

abbrev pub value_printed : State → Given → Effect
value_printed s g = prints (printed_value s g.value) g.warns
