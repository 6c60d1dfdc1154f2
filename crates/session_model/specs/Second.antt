-- What stands as j gives over the rows that are found.
--   rows_answer t r                  without j: these rows as a new table
--   j_answer j vars r                what an expression gives over them
--   second_answer given s t vars r   any of these, or an assignment to the table
use Rattle.std.specs.Prelude.{Bool, if◌then◌else◌, length, Option, None, Some, Result, Ok}
use Rattle.dt_base.specs.declared.fault.Fault.{Fault}
use Rattle.dt_base.specs.declared.warns.Warns.{Warns}
use Rattle.dt_base.specs.Warns.{both_warns}
use Rattle.dt_model.specs.Table.{PlainTable}
use Rattle.vector_model.specs.Then.{then_do}
use Rattle.expr_model.specs.Surroundings.{Vars}
use Rattle.session_model.specs.Assigned.{assigned_answer, call_names, call_side, left_names, right_side}
use Rattle.session_model.specs.Columns.{gives_columns}
use Rattle.session_model.specs.Found.{Found, rows_env}
use Rattle.session_model.specs.Meanings.{Answer, Meaning, SecondMeaning, Computes, Assigns, AssignsAll}
use Rattle.session_model.specs.Shapes.{answer_in}
use Rattle.session_model.specs.Value.{new_table}

-- rows that a logical i leaves stand as they stood, so that the key is true of them
abbrev pub key_kept : PlainTable → Bool → PlainTable → PlainTable
key_kept t logical new = if logical then record new { key = t.key } else new

-- these rows as a new table
abbrev pub rows_answer : PlainTable → Found → Result Answer Fault
rows_answer t r =
    then_do (new_table r.columns.names (length r.places) r.columns.vectors) (λ new.
    gives_columns r.warns (key_kept t r.logical new))

-- an answer, and more warnings
abbrev pub warned_answer : Warns → Answer → Result Answer Fault
warned_answer w a = Ok (record { outcome = a.outcome; warns = both_warns w a.warns })

-- j over these rows
abbrev pub j_answer : Meaning → Vars → Found → Result Answer Fault
j_answer j vars r = then_do (answer_in j (rows_env r vars)) (warned_answer r.warns)

-- `chosen` tells whether there is an i
abbrev pub second_answer : Bool → Option SecondMeaning → PlainTable → Vars → Found → Result Answer Fault
second_answer chosen None t vars r = rows_answer t r
second_answer chosen (Some (Computes j)) t vars r = j_answer j vars r
second_answer chosen (Some (Assigns left right)) t vars r =
    assigned_answer chosen (left_names left) (right_side right) t vars r
second_answer chosen (Some (AssignsAll args)) t vars r =
    assigned_answer chosen (Ok (call_names args)) (Ok (call_side args)) t vars r
