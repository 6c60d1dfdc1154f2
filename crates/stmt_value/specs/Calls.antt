-- What a call gives, where the vector that it is as an expression is known.
--   bound_table f args w      the call of the table function f
--   copied_value s g          what `copy` makes of a value
--   known_call k f args v w   a call of the function f of this kind
--   call_or o args v w        a call, where o is the function of its name
use Rattle.std.specs.Prelude.{List, Option, None, Some, Result, Ok, Err}
use Rattle.dt_base.specs.declared.fault.Code.TheVariants.{E19}
use Rattle.dt_base.specs.declared.fault.Fault.{Fault}
use Rattle.dt_base.specs.Fault.{fault}
use Rattle.dt_model.specs.State.{State}
use Rattle.func_table.specs.Calls.{kind_of, word_of}
use Rattle.func_table.specs.declared.func.Func.{Func}
use Rattle.func_table.specs.declared.func.Kind.{Kind}
use Rattle.func_table.specs.declared.func.Kind.TheVariants.{Table, Command}
use Rattle.session_model.specs.Binding.{bound}
use Rattle.session_model.specs.Calls.{table_call}
use Rattle.session_model.specs.Expression.{names_in}
use Rattle.session_model.specs.Meanings.{ArgMeaning}
use Rattle.session_model.specs.Value.{Given, New, Scene, copied, plain_given, wanted_table}
use Rattle.vector_model.specs.Then.{then_do}

-- a table function gives what it does once its arguments are bound
abbrev pub bound_table : Func → List ArgMeaning → Scene → Result Given Fault
bound_table f args w = then_do (bound f (names_in args)) (λ _. table_call f args w)

-- the table of a value once more, with the value's warnings
abbrev pub copied_value : State → Given → Result Given Fault
copied_value s g = then_do (wanted_table s g.value) (λ t. Ok (plain_given (New (copied t)) g.warns))

-- a command gives no value, a table function what it does once its arguments are bound, and any other
-- its vector
abbrev pub known_call : Kind → Func → List ArgMeaning → (Scene → Result Given Fault) → Scene → Result Given Fault
known_call Command f args vector w = Err (fault E19 (word_of f))
known_call Table f args vector w = bound_table f args w
known_call _ f args vector w = vector w

-- a name that is no function's is left to what expressions say of it
abbrev pub call_or : Option Func → List ArgMeaning → (Scene → Result Given Fault) → Scene → Result Given Fault
call_or None args vector w = vector w
call_or (Some f) args vector w = known_call (kind_of f) f args vector w
