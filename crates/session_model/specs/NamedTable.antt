-- The table that a command names, and the arguments beside it.
--   argument_for args before p   the argument that the formal p takes, behind these formals
--   named_table s name     the number and the table of the argument D
--   table_named args s     the same, from all arguments of a call
--   table_change n t       the table of this number becomes another
use Rattle.std.specs.Prelude.{ℕ, List, [], Option, None, Some, Result, Ok, Err}
use Rattle.std.specs.FinMap as finite
use Rattle.dt_base.specs.declared.fault.Fault.{Fault}
use Rattle.dt_base.specs.declared.fault.Code.TheVariants.{E02, E19, E20}
use Rattle.dt_base.specs.Fault.{fault}
use Rattle.dt_model.specs.State.{State, Bound}
use Rattle.dt_model.specs.State.{Table as NumberedTable, Vector as BoundVector}
use Rattle.dt_model.specs.Table.{PlainTable}
use Rattle.func_table.specs.declared.formal.Formal.{Formal}
use Rattle.func_table.specs.declared.formal.Formal.TheVariants as formal
use Rattle.func_table.specs.Calls.{name_of}
use Rattle.vector_model.specs.Faults.{unbuilt}
use Rattle.session_model.specs.Binding.{free_count, place_of}
use Rattle.session_model.specs.Effect.{Change, Nothing}
use Rattle.session_model.specs.Expression.{arg_at, names_in}
use Rattle.session_model.specs.Form.{name_in}
use Rattle.session_model.specs.Meanings.{ArgMeaning, Meaning}
use Rattle.session_model.specs.Value.{numbered_table}

-- the argument that a formal takes, where these formals stand before it
abbrev pub argument_for : List ArgMeaning → List Formal → Formal → Option ArgMeaning
argument_for args before p = arg_at args (place_of (names_in args) (free_count (names_in args) before) p)

-- the argument D is a name as written, which is bound to a table
abbrev pub bound_table : State → List ℕ → Option Bound → Result (ℕ × PlainTable) Fault
bound_table s name None = Err (fault E02 name)
bound_table s name (Some (BoundVector v)) = Err (fault E20 name)
bound_table s name (Some (NumberedTable n)) = Ok (n, numbered_table s n)

abbrev pub named_table : State → Option (List ℕ) → Result (ℕ × PlainTable) Fault
named_table s None = Err (fault E19 (name_of formal.D))
named_table s (Some name) = bound_table s name (finite.get s.names name)

abbrev pub bare_name_of : Option ArgMeaning → Option (List ℕ)
bare_name_of None = None
bare_name_of (Some a) = name_in a.means.form

-- a call whose arguments are bound has one for each needed formal
abbrev pub needed : Option ArgMeaning → Result Meaning Fault
needed None = Err unbuilt
needed (Some a) = Ok a.means

-- the table that a call names by its argument D
abbrev pub table_named : List ArgMeaning → State → Result (ℕ × PlainTable) Fault
table_named args s = named_table s (bare_name_of (argument_for args [] formal.D))

-- the table of this number becomes another
abbrev pub table_change : ℕ → PlainTable → Change
table_change n t = record { table = Some (n, t); name = Nothing; options = None }
