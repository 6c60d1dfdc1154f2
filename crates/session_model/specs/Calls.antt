-- What the calls of table functions and commands do.
--   argument args n p   the argument that the formal p takes, where n formals before it are free
--   data_table args w   what `data.table` gives
--   table_call f args w what the call of a table function gives
--   command f args w    what the call of a command does
--   command_named f args    what the call does as a whole statement, if it is a command
use Rattle.std.specs.Prelude.{ℕ, cond, List, Option, None, Some, Result, Ok, Err, codes}
use Rattle.std.specs.Str.{bytes_eq}
use Rattle.std.specs.FinMap as finite
use Rattle.dt_base.specs.declared.fault.Fault.{Fault}
use Rattle.dt_base.specs.declared.fault.Code.TheVariants.{E02, E04, E19}
use Rattle.dt_base.specs.Fault.{fault}
use Rattle.dt_model.specs.State.{State, Bound}
use Rattle.func_table.specs.declared.func.Func.{Func}
use Rattle.func_table.specs.declared.func.Func.TheVariants as func
use Rattle.func_table.specs.declared.func.Kind.{Kind}
use Rattle.func_table.specs.declared.func.Kind.TheVariants as kind
use Rattle.func_table.specs.declared.formal.Formal.{Formal}
use Rattle.func_table.specs.declared.formal.Formal.TheVariants as formal
use Rattle.func_table.specs.Calls.{word_of, kind_of}
use Rattle.run_model.specs.Csv.{written_csv}
use Rattle.vector_model.specs.Then.{then_do}
use Rattle.expr_model.specs.Surroundings.{outside}
use Rattle.vector_model.specs.Faults.{unbuilt}
use Rattle.session_model.specs.Binding.{bound, place_of, is_free}
use Rattle.session_model.specs.Columns.{arguments_answer}
use Rattle.session_model.specs.Effect.{Effect, Remove, prints, writes, changes_name, does_nothing}
use Rattle.session_model.specs.Expression.{names_in, arg_at}
use Rattle.session_model.specs.Form.{Form, text_in, name_in}
use Rattle.session_model.specs.Meanings.{Answer, Meaning, ArgMeaning}
use Rattle.session_model.specs.Found.{vars_of}
use Rattle.session_model.specs.Orders.{options_effect, set_index_effect, set_key_effect, set_order_effect}
use Rattle.session_model.specs.Query.{value_after}
use Rattle.session_model.specs.Set.{set_effect, set_names_effect}
use Rattle.session_model.specs.Value.{Value, New, Null, Given, Scene, file_table, wanted_table, copied, plain_given}
use Rattle.session_model.specs.Value.{printed_value}

-- ---- Forms of arguments

-- a file's name is a text literal
abbrev pub named_file : Form → Result (List ℕ) Fault
named_file form = elim (text_in form) [ None ↦ Err (fault E19 (codes "file")) | Some file ↦ Ok file ]

-- a package's name stands bare, and there is one
abbrev pub package_named : Option (List ℕ) → Result Effect Fault
package_named None = Err (fault E19 (codes "package"))
package_named (Some name) =
    cond (bytes_eq name (codes "data.table")) (Ok does_nothing) (Err (fault E19 (codes "package")))

abbrev pub known_package : Form → Result Effect Fault
known_package form = package_named (name_in form)

-- a name stands bare
abbrev pub bare_name : Form → Result (List ℕ) Fault
bare_name form = elim (name_in form) [ None ↦ Err (fault E19 (codes "name")) | Some name ↦ Ok name ]

-- ---- Calls

-- a call whose arguments are bound has one for each formal
abbrev pub there : Option ArgMeaning → Result Meaning Fault
there None = Err unbuilt
there (Some a) = Ok a.means

-- the argument that a formal takes, where `before` formals before it are free
abbrev pub argument : List ArgMeaning → ℕ → Formal → Result Meaning Fault
argument args before p = there (arg_at args (place_of (names_in args) before p))

-- what `copy` of an expression gives
abbrev pub copy_of : Meaning → Scene → Result Given Fault
copy_of a w =
    then_do (a.gives w) (λ g.
    then_do (wanted_table w.state g.value) (λ t. Ok (plain_given (New (copied t)) g.warns)))

-- what columns give as a value: a new table
abbrev pub given_of : Answer → Result Given Fault
given_of a = Ok (plain_given (value_after Null a.outcome) a.warns)

-- `data.table` of any expressions over the script's names
abbrev pub data_table : List ArgMeaning → Scene → Result Given Fault
data_table args w = then_do (arguments_answer args (outside (vars_of w.state))) given_of

-- a table function, once its arguments are bound
abbrev pub table_call : Func → List ArgMeaning → Scene → Result Given Fault
table_call func.DataTable args w = data_table args w
table_call func.Fread args w =
    then_do (argument args 0 formal.File) (λ a. then_do (named_file a.form) (file_table w.files))
table_call func.Copy args w = then_do (argument args 0 formal.Table) (λ a. copy_of a w)
table_call _ args w = Err unbuilt

-- ---- Commands

-- NULL is no value of an argument
abbrev pub not_null : Value → Result Effect Fault → Result Effect Fault
not_null Null r = Err (fault E04 (codes "NULL"))
not_null _ r = r

-- what prints: any value but NULL
abbrev pub printed_given : State → Given → Result Effect Fault
printed_given s g = not_null g.value (Ok (prints (printed_value s g.value) g.warns))

-- the table is written as a file
abbrev pub written_given : State → Given → Form → Result Effect Fault
written_given s g file =
    then_do (wanted_table s g.value) (λ t.
    then_do (named_file file) (λ name. Ok (writes name (written_csv t) g.warns)))

-- a name that is bound is removed
abbrev pub removed_name : List ℕ → Option Bound → Result Effect Fault
removed_name name None = Err (fault E02 name)
removed_name name (Some b) = Ok (changes_name (Remove name))

-- a command, once its arguments are bound
abbrev pub command : Func → List ArgMeaning → Scene → Result Effect Fault
command func.Library args w = then_do (argument args 0 formal.Package) (λ a. known_package a.form)
command func.Print args w =
    then_do (argument args 0 formal.Value) (λ a. then_do (a.gives w) (printed_given w.state))
command func.Fwrite args w =
    then_do (argument args 0 formal.Table) (λ a.
    then_do (a.gives w) (λ g.
    then_do (argument args (cond (is_free (names_in args) formal.Table) 1 0) formal.File) (λ b.
    written_given w.state g b.form)))
command func.Rm args w =
    then_do (argument args 0 formal.Name) (λ a.
    then_do (bare_name a.form) (λ name. removed_name name (finite.get w.state.names name)))
command func.Set args w = set_effect args w.state
command func.SetNames args w = set_names_effect args w.state
command func.SetKey args w = set_key_effect args w.state
command func.SetOrder args w = set_order_effect args w.state
command func.SetIndex args w = set_index_effect args w.state
command func.SetOptions args w = options_effect args w.options
command _ args w = Err unbuilt

-- a command's call: the faults of binding come first
abbrev pub bound_command : Func → List ArgMeaning → Scene → Result Effect Fault
bound_command f args w = then_do (bound f (names_in args)) (λ _. command f args w)

-- A command is a whole statement; with a name to assign to it is refused.
abbrev pub command_step : Func → List ArgMeaning → Option (List ℕ) → Scene → Result Effect Fault
command_step f args None w = bound_command f args w
command_step f args (Some name) w = Err (fault E19 (word_of f))

-- what the call of a command does as a whole statement
abbrev pub command_of : Kind → Func → List ArgMeaning → Option (Option (List ℕ) → Scene → Result Effect Fault)
command_of kind.Command f args = Some (command_step f args)
command_of _ f args = None

abbrev pub command_named : Option Func → List ArgMeaning → Option (Option (List ℕ) → Scene → Result Effect Fault)
command_named None args = None
command_named (Some f) args = command_of (kind_of f) f args
