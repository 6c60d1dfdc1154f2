-- What is done to the order of a table's rows, its key and its indices, what is told of them, and options.
--   columns_written args     the arguments behind D, as written
--   key_change t forms       the table after `setkey`
--   order_change t forms     the table after `setorder`
--   index_effect x forms     what `setindex` does to a table
--   set_key_effect, set_order_effect, set_index_effect    what the commands do in a state
--   options_effect args o    what `options` does
--   report f args s          what `key` and `indices` give
use Rattle.std.specs.Prelude.{ℕ, Bool, true, false, cond, is_none, if◌then◌else◌, List, [], ◌∷◌, length, map, nat_lt}
use Rattle.std.specs.Prelude.{drop, Option, None}
use Rattle.std.specs.Prelude.{Some, Result, Ok, Err, codes}
use Rattle.std.specs.List.{filter}
use Rattle.dt_base.specs.declared.cell.Cell.TheVariants as is
use Rattle.dt_base.specs.declared.cell.ColType.TheVariants as ty
use Rattle.dt_base.specs.declared.fault.Fault.{Fault}
use Rattle.dt_base.specs.declared.fault.Code.TheVariants.{E07, E19}
use Rattle.dt_base.specs.Fault.{fault}
use Rattle.dt_base.specs.declared.limits.TheConstants.{MAX_ROWS}
use Rattle.dt_base.specs.Warns.{no_warns}
use Rattle.dt_model.specs.State.{State}
use Rattle.dt_model.specs.Table.{PlainTable}
use Rattle.func_table.specs.declared.formal.Formal.{Formal}
use Rattle.func_table.specs.declared.formal.Formal.TheVariants as formal
use Rattle.func_table.specs.declared.func.Func.{Func}
use Rattle.func_table.specs.declared.func.Func.TheVariants as func
use Rattle.func_table.specs.declared.options.Options.{Options}
use Rattle.func_table.specs.Calls.{name_of}
use Rattle.order_model.specs.Keys.{key_set, order_set}
use Rattle.assign_model.specs.Assign.{names_in as columns_of}
use Rattle.vector_model.specs.Faults.{unbuilt}
use Rattle.vector_model.specs.Then.{then_do}
use Rattle.session_model.specs.Asked.{bad}
use Rattle.session_model.specs.Binding.{is_free}
use Rattle.session_model.specs.Effect.{Effect, Nothing, changes_with, does_nothing}
use Rattle.session_model.specs.Expression.{names_in}
use Rattle.session_model.specs.Form.{Form, NullWord, flag_in}
use Rattle.session_model.specs.Indices.{has_index, joined, with_index}
use Rattle.session_model.specs.Meanings.{ArgMeaning}
use Rattle.session_model.specs.NamedTable.{argument_for, table_change, table_named}
use Rattle.session_model.specs.OrderColumns.{OrderColumn, distinct_columns, sorting_by}
use Rattle.session_model.specs.Value.{Cells, Null, Given, gives_value}

-- ---- Arguments

-- The arguments that stand behind D. None of them has a name; where D has none either, the first argument
-- without a name is D.
abbrev pub arguments_behind : List ArgMeaning → List ArgMeaning
arguments_behind args =
    drop (cond (is_free (names_in args) formal.D) 1 0) (filter (λ a. is_none a.name) args)

abbrev pub columns_written : List ArgMeaning → List Form
columns_written args = map (λ a. a.means.form) (arguments_behind args)

-- the one argument is the word NULL
abbrev pub is_null_alone : List Form → Bool
is_null_alone (NullWord ∷ []) = true
is_null_alone _ = false

abbrev pub column_name : OrderColumn → List ℕ
column_name c = c.name

-- names of columns, of which none stands twice
abbrev pub columns_named : List ℕ → PlainTable → List Form → Result (List (List ℕ)) Fault
columns_named word t forms =
    then_do (distinct_columns word false (columns_of t) forms) (λ cs. Ok (map column_name cs))

-- ---- `setkey(D, c, ...)`

-- without columns all of them are the key; the word NULL drops the key, and leaves the rows
abbrev pub key_change : PlainTable → List Form → Result PlainTable Fault
key_change t [] = Ok (key_set (columns_of t) t)
key_change t (form ∷ rest) =
    if is_null_alone (form ∷ rest) then Ok (record t { key = [] })
    else then_do (columns_named (codes "setkey") t (form ∷ rest)) (λ names. Ok (key_set names t))

-- ---- `setorder(D, c, -c, ...)`

-- NA stands first, also where cells fall
abbrev pub order_change : PlainTable → List Form → Result PlainTable Fault
order_change t [] = bad (codes "setorder")
order_change t (form ∷ rest) =
    then_do (distinct_columns (codes "setorder") true (columns_of t) (form ∷ rest))
    (λ cs. Ok (order_set (map (sorting_by t false) cs) t))

-- the table that D names becomes another
abbrev pub changes_table : (PlainTable → List Form → Result PlainTable Fault) → List ArgMeaning → State
    → Result Effect Fault
changes_table change args s =
    then_do (table_named args s) (λ x.
    then_do (change x.1 (columns_written args)) (λ t. Ok (changes_with (table_change x.0 t) no_warns)))

abbrev pub set_key_effect : List ArgMeaning → State → Result Effect Fault
set_key_effect args s = changes_table key_change args s

abbrev pub set_order_effect : List ArgMeaning → State → Result Effect Fault
set_order_effect args s = changes_table order_change args s

-- ---- `setindex(D, c, ...)`

-- an index stands behind the others; one that is there already changes nothing
abbrev pub index_added : ℕ × PlainTable → List (List ℕ) → Effect
index_added x names =
    if has_index names x.1 then does_nothing else changes_with (table_change x.0 (with_index names x.1)) no_warns

-- the word NULL drops all indices
abbrev pub index_effect : ℕ × PlainTable → List Form → Result Effect Fault
index_effect x [] = bad (codes "setindex")
index_effect x (form ∷ rest) =
    if is_null_alone (form ∷ rest) then Ok (changes_with (table_change x.0 (record x.1 { indices = [] })) no_warns)
    else then_do (columns_named (codes "setindex") x.1 (form ∷ rest)) (λ names. Ok (index_added x names))

abbrev pub set_index_effect : List ArgMeaning → State → Result Effect Fault
set_index_effect args s = then_do (table_named args s) (λ x. index_effect x (columns_written args))

-- ---- `options(datatable.auto.index = , datatable.use.index = )`

-- an option that is left out stays as it is
abbrev pub flag_or : Formal → Bool → Option ArgMeaning → Result Bool Fault
flag_or p old None = Ok old
flag_or p old (Some a) = elim (flag_in a.means.form) [ None ↦ Err (fault E19 (name_of p)) | Some b ↦ Ok b ]

abbrev pub options_set : Options → Effect
options_set new = changes_with (record { table = None; name = Nothing; options = Some new }) no_warns

abbrev pub options_effect : List ArgMeaning → Options → Result Effect Fault
options_effect args old =
    then_do (flag_or formal.AutoIndex old.auto_index (argument_for args [] formal.AutoIndex)) (λ auto.
    then_do (flag_or formal.UseIndex old.use_index (argument_for args [] formal.UseIndex)) (λ use_index.
    Ok (options_set (record { auto_index = auto; use_index = use_index }))))

-- ---- `key(D)` and `indices(D)`

-- texts, of which there are no more than a vector has cells
abbrev pub texts_given : List (List ℕ) → Result Given Fault
texts_given texts =
    if nat_lt MAX_ROWS (length texts) then Err (fault E07 [])
    else gives_value (Cells (record { kind = ty.Chr; cells = map is.Text texts }))

-- NULL where there is none
abbrev pub texts_or_null : List (List ℕ) → Result Given Fault
texts_or_null [] = gives_value Null
texts_or_null (text ∷ rest) = texts_given (text ∷ rest)

-- the columns of the key; or the indices, each as one text
abbrev pub told_of : Func → PlainTable → Result Given Fault
told_of func.Key t = texts_or_null t.key
told_of func.Indices t = texts_or_null (map joined t.indices)
told_of _ t = Err unbuilt

abbrev pub report : Func → List ArgMeaning → State → Result Given Fault
report f args s = then_do (table_named args s) (λ x. told_of f x.1)
