-- The rows that a bracket's i finds.
--   vars_of s            what the script's names are bound to
--   i_value m s          the value of the i of a bracket
--   whole_rows t vars    the surroundings of all rows of a table
--   ordered_rows ..      the rows in the order that the call of `order` asks
--   Found                the rows that are found: their columns, and where they stand
--   rows_env r vars      the surroundings of these rows
--   found q i t vars     the rows that i finds of a table; without i all rows
-- i comes by its type, then its value, then its rows; the call of `order` gives rows by itself. Then an
-- argument is at fault that wants a join.
use Rattle.std.specs.Prelude.{ℕ, ◌==◌, Bool, true, false, List, [], length, map, Option, None, Some, Result, Ok, Err}
use Rattle.std.specs.Prelude.{if◌then◌else◌, is_none}
use Rattle.std.specs.List.{list_any}
use Rattle.std.specs.Str.{bytes_eq}
use Rattle.std.specs.FinMap as finite
use Rattle.dt_base.specs.declared.cell.ColType.{ColType}
use Rattle.dt_base.specs.declared.cell.ColType.TheVariants as ty
use Rattle.dt_base.specs.declared.fault.Fault.{Fault}
use Rattle.dt_base.specs.declared.fault.Code.TheVariants.{E02, E19}
use Rattle.dt_base.specs.Fault.{fault}
use Rattle.dt_base.specs.declared.warns.Warns.{Warns}
use Rattle.dt_base.specs.Warns.{no_warns}
use Rattle.dt_model.specs.State.{State, Bound}
use Rattle.dt_model.specs.State.{Table as NumberedTable, Vector as BoundVector}
use Rattle.dt_model.specs.Table.{PlainTable}
use Rattle.func_table.specs.Calls.{word_of}
use Rattle.func_table.specs.declared.func.Func.TheVariants as func
use Rattle.func_table.specs.declared.special.Special.{Special}
use Rattle.func_table.specs.declared.special.Special.TheVariants as special
use Rattle.func_table.specs.Special.{special_of}
use Rattle.vector_model.specs.Faults.{unbuilt}
use Rattle.vector_model.specs.Functions.{Valued}
use Rattle.vector_model.specs.Then.{then_do}
use Rattle.row_model.specs.Rows.{Places, all_rows, chosen}
use Rattle.expr_model.specs.Surroundings.{Columns, Env, Var, Vars, columns_in, columns_at, in_rows}
use Rattle.expr_model.specs.Surroundings as bound
use Rattle.order_model.specs.Places.{ordering}
use Rattle.assign_model.specs.Assign.{names_in as columns_of}
use Rattle.session_model.specs.Asked.{Asked, first_wanting}
use Rattle.session_model.specs.Binding.{bound}
use Rattle.session_model.specs.Expression.{checked_value, quiet}
use Rattle.session_model.specs.Form.{Form, BareName, NotName}
use Rattle.session_model.specs.Meanings.{Meaning}
use Rattle.session_model.specs.OrderColumns.{OrderColumn, order_columns, sorting_by}
use Rattle.session_model.specs.Value.{numbered_table}
use Rattle.session_model.specs.Written.{Item, Listing}

-- ---- The script's names, as expressions meet them

abbrev pub var_of : State → Option Bound → Option Var
var_of s None = None
var_of s (Some (NumberedTable n)) = Some (bound.Table (numbered_table s n))
var_of s (Some (BoundVector v)) = Some (bound.Vector v)

abbrev pub vars_of : State → Vars
vars_of s name = var_of s (finite.get s.names name)

-- ---- i

-- the vector that a script's name gives; the name of a table is a join, which is not served
abbrev pub i_variable : List ℕ → Option Var → Result Valued Fault
i_variable name None = Err (fault E02 name)
i_variable name (Some (bound.Table t)) = Err unbuilt
i_variable name (Some (bound.Vector v)) = quiet (Ok v)

-- `.N` is the number of rows; any other bare name is looked up among the script's names alone, where no
-- special name stands
abbrev pub i_name : Meaning → Env → List ℕ → Option Special → Result Valued Fault
i_name m s name (Some special.Count) = checked_value m s
i_name m s name (Some special.Places) = Err (fault E02 name)
i_name m s name (Some special.Group) = Err (fault E02 name)
i_name m s name (Some special.Rows) = Err (fault E02 name)
i_name m s name None = i_variable name (s.vars name)

-- `!` before the name of a table is a join that is turned round, which is not served
abbrev pub i_not_variable : Meaning → Env → Option Var → Result Valued Fault
i_not_variable m s (Some (bound.Table t)) = Err unbuilt
i_not_variable m s _ = checked_value m s

abbrev pub i_not_name : Meaning → Env → List ℕ → Option Special → Result Valued Fault
i_not_name m s name (Some p) = checked_value m s
i_not_name m s name None = i_not_variable m s (s.vars name)

abbrev pub i_by_form : Meaning → Env → Form → Result Valued Fault
i_by_form m s (BareName name) = i_name m s name (special_of name)
i_by_form m s (NotName name) = i_not_name m s name (special_of name)
i_by_form m s _ = checked_value m s

abbrev pub i_value : Meaning → Env → Result Valued Fault
i_value m s = i_by_form m s m.form

-- ---- The rows

-- Rows that are found: their columns, which names meet; where each stands in the table before the bracket,
-- or none for a row of NA; whether i names a row that is not there; whether i is logical, so that the rows
-- stand as they stood; and the warnings of i.
pub record Found : Type 0 where
  pub columns : Columns
  pub places : Places
  pub past : Bool
  pub logical : Bool
  pub warns : Warns

-- all rows of a table, as i and a j without i meet them
abbrev pub whole_rows : PlainTable → Vars → Env
whole_rows t vars = in_rows (columns_in t) (all_rows (length t.rows)) vars

abbrev pub all_found : PlainTable → Found
all_found t = record {
  columns = columns_in t;
  places = all_rows (length t.rows);
  past = false;
  logical = false;
  warns = no_warns;
}

-- a table without columns has no rows, and none is chosen of it
abbrev pub of_columns : ℕ → Places → Places
of_columns width places = if width == 0 then [] else places

-- the rows at these places
abbrev pub found_at : PlainTable → Places → Bool → Bool → Warns → Found
found_at t places past logical warns = record {
  columns = columns_at (columns_in t) places;
  places = places;
  past = past;
  logical = logical;
  warns = warns;
}

abbrev pub is_logical : ColType → Bool
is_logical ty.Lgl = true
is_logical _ = false

-- a place that is named and not there is a row of NA
abbrev pub rows_by : PlainTable → Valued → Result Found Fault
rows_by t v =
    then_do (chosen (length t.rows) v.vector) (λ places.
    Ok (found_at t (of_columns (length t.columns) places) (list_any is_none places) (is_logical v.vector.kind) v.warns))

-- ---- `order(c, -c, ...)`

-- the items of the call of `order`
abbrev pub order_items : Option Listing → Option (List Item)
order_items None = None
order_items (Some l) = if bytes_eq l.word (word_of func.Order) then Some l.items else None

-- all rows, in the order of these columns; NA stands last
abbrev pub rows_ordered : PlainTable → List OrderColumn → Found
rows_ordered t by =
    found_at t (map Some (ordering (map (sorting_by t true) by) (length t.rows))) false false no_warns

-- the names of the arguments are looked at first, and then each argument in its turn
abbrev pub ordered_rows : List Item → PlainTable → Result Found Fault
ordered_rows items t =
    then_do (bound func.Order (map (λ k. k.name) items)) (λ _.
    then_do (order_columns (word_of func.Order) true (columns_of t) (map (λ k. k.form) items)) (λ by.
    Ok (rows_ordered t by)))

-- ---- The rows of any i

abbrev pub rows_of_i : Option (List Item) → Meaning → PlainTable → Vars → Result Found Fault
rows_of_i None i t vars = then_do (i_value i (whole_rows t vars)) (rows_by t)
rows_of_i (Some items) i t vars = ordered_rows items t

abbrev pub rows_found : Option Meaning → PlainTable → Vars → Result Found Fault
rows_found None t vars = Ok (all_found t)
rows_found (Some i) t vars = rows_of_i (order_items i.listing) i t vars

-- an argument that wants a join is at fault where i is none
abbrev pub joins_nothing : Option (List ℕ) → Result (Unit {0}) Fault
joins_nothing None = Ok tt
joins_nothing (Some word) = Err (fault E19 word)

abbrev pub found : Asked → Option Meaning → PlainTable → Vars → Result Found Fault
found q i t vars =
    then_do (rows_found i t vars) (λ r. then_do (joins_nothing (first_wanting q)) (λ _. Ok r))

-- what an expression meets over these rows
abbrev pub rows_env : Found → Vars → Env
rows_env r vars = in_rows r.columns r.places vars
