-- Calls that tell of a table's orders.
--   reported o        the function, if it is one that tells of a table's orders
--   bound_report f args s   what its call gives, with the binding of its arguments first
--   IsReport m r      r is the call that the expression of meaning m is, also in parentheses, if it is one
use Rattle.std.specs.Prelude.{◌≡◌, ℕ, List, map, Option, None, Some, Result}
use Rattle.dt_base.specs.declared.fault.Fault.{Fault}
use Rattle.dt_model.specs.State.{State}
use Rattle.func_table.specs.Calls.{kind_of}
use Rattle.func_table.specs.declared.func.Func.{Func}
use Rattle.func_table.specs.declared.func.Kind.{Kind}
use Rattle.func_table.specs.declared.func.Kind.TheVariants.{Report}
use Rattle.session_model.specs.Binding.{bound}
use Rattle.session_model.specs.Expression.{names_in}
use Rattle.session_model.specs.Meaning.{arg_meaning}
use Rattle.session_model.specs.Meanings.{ArgMeaning, Meaning}
use Rattle.session_model.specs.Orders.{report}
use Rattle.session_model.specs.Value.{Given, Scene}
use Rattle.stmt_value.specs.declared.reports.ReportCall.{ReportCall}
use Rattle.vector_model.specs.Then.{then_do}

abbrev pub report_by : Kind → Func → Option Func
report_by Report f = Some f
report_by _ f = None

abbrev pub report_func : Func → Option Func
report_func f = report_by (kind_of f) f

abbrev pub reported : Option Func → Option Func
reported None = None
reported (Some f) = report_func f

abbrev pub bound_report : Func → List ArgMeaning → State → Result Given Fault
bound_report f args s = then_do (bound f (names_in args)) (λ _. report f args s)

-- any other expression gives the same as a statement's value and elsewhere
abbrev pub IsReport : Meaning → Option ReportCall → Type 0
IsReport m None = (w : Scene) → m.whole w ≡ m.gives w
IsReport m (Some r) = (w : Scene) → m.whole w ≡ bound_report r.func (map arg_meaning r.args.now) w.state
