-- What a command makes of its table, apart from what else a statement does.
--   becomes n r           the table of this number with what it becomes, or the fault
--   table_effect o        the effect that changes this table, if there is one, and nothing else
--   key_columns t forms   the names of the key that `setkey` sets
--   order_of t forms      the columns by which `setorder` puts rows in order
--   index_columns t forms the names of the index that `setindex` adds
--   index_change x forms  what `setindex` makes of a table; nothing where the index is there
--   flag_given p form     the flag that is written for an option
use Rattle.std.specs.Prelude.{ℕ, Bool, true, if◌then◌else◌, List, [], ◌∷◌, Option, None, Some, Result, Ok, Err, codes}
use Rattle.assign_model.specs.Assign.{names_in as columns_of}
use Rattle.dt_base.specs.declared.fault.Fault.{Fault}
use Rattle.dt_base.specs.declared.fault.Code.TheVariants.{E19}
use Rattle.dt_base.specs.Fault.{fault}
use Rattle.dt_base.specs.Warns.{no_warns}
use Rattle.dt_model.specs.Table.{PlainTable}
use Rattle.func_table.specs.Calls.{name_of}
use Rattle.func_table.specs.declared.formal.Formal.{Formal}
use Rattle.session_model.specs.Asked.{bad}
use Rattle.session_model.specs.Effect.{Effect, Nothing, changes_with}
use Rattle.session_model.specs.Form.{Form, flag_in}
use Rattle.session_model.specs.Indices.{has_index, with_index}
use Rattle.session_model.specs.OrderColumns.{OrderColumn, distinct_columns}
use Rattle.session_model.specs.Orders.{columns_named, is_null_alone}
use Rattle.vector_model.specs.Then.{then_do}

-- the number, beside the table that it then has
abbrev pub becomes : ℕ → Result PlainTable Fault → Result (Option (ℕ × PlainTable)) Fault
becomes n r = then_do r (λ t. Ok (Some (n, t)))

-- no text, no file, no warning
abbrev pub table_effect : Option (ℕ × PlainTable) → Effect
table_effect o = changes_with (record { table = o; name = Nothing; options = None }) no_warns

-- without columns all of them
abbrev pub key_columns : PlainTable → List Form → Result (List (List ℕ)) Fault
key_columns t [] = Ok (columns_of t)
key_columns t (form ∷ rest) = columns_named (codes "setkey") t (form ∷ rest)

-- one column or more, whose cells fall where `-` stands before them
abbrev pub order_of : PlainTable → List Form → Result (List OrderColumn) Fault
order_of t [] = bad (codes "setorder")
order_of t (form ∷ rest) = distinct_columns (codes "setorder") true (columns_of t) (form ∷ rest)

-- one column or more
abbrev pub index_columns : PlainTable → List Form → Result (List (List ℕ)) Fault
index_columns t [] = bad (codes "setindex")
index_columns t (form ∷ rest) = columns_named (codes "setindex") t (form ∷ rest)

-- an index of these columns, where there is none
abbrev pub with_new_index : ℕ × PlainTable → List (List ℕ) → Option (ℕ × PlainTable)
with_new_index x names = if has_index names x.1 then None else Some (x.0, with_index names x.1)

-- the word NULL drops all indices
abbrev pub index_change : ℕ × PlainTable → List Form → Result (Option (ℕ × PlainTable)) Fault
index_change x forms =
    if is_null_alone forms then Ok (Some (x.0, record x.1 { indices = [] }))
    else then_do (index_columns x.1 forms) (λ names. Ok (with_new_index x names))

-- TRUE or FALSE
abbrev pub flag_given : Formal → Form → Result Bool Fault
flag_given p form = elim (flag_in form) [ None ↦ Err (fault E19 (name_of p)) | Some b ↦ Ok b ]
