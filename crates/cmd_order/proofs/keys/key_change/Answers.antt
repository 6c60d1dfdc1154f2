use Rattle.std.proofs.Common.{Global, Ok, Option, Result, Vec, ap, map, subst, sym, ℕ, ◌∙◌}
use Rattle.cmd_order.proofs.KeyFacts.{key_change_lent, ok_at}
use Rattle.cmd_order.proofs.Steps.{fault_given_on, step_on}
use Rattle.cmd_order.specs.Tables.{key_columns}
use Rattle.dt_base.specs.declared.fault.Fault.{Fault}
use Rattle.dt_model.specs.Table.{PlainTable, names_at}
use Rattle.dt_table.specs.Plain.{plain}
use Rattle.dt_table.specs.Table.{TableSeen}
use Rattle.eval_fail.specs.Answers.{AnswersAs}
use Rattle.order_model.specs.Keys.{key_set}
use Rattle.stmt_change.specs.Effects.{plain_table}
use Rattle.stmt_change.specs.Places.{table_at}
use Rattle.written_forms.specs.Seen.{form_seen}
use Rattle.cmd_order.proofs.keys.key_change.Goals as goal

pub returns-in_err-key-clause-answer : goal.returns-in_err-key-clause-answer
returns-in_err-key-clause-answer g c =
    let t : TableSeen = table_at c.args.heap.now c.args.id in
    let forms = map form_seen c.args.forms.now in
    subst (λ (o : Result (Option (ℕ × PlainTable)) Fault). AnswersAs (plain_table c.args.heap.now) o
    c.from_residual.result)
    (sym (key_change_lent c.args.id.number t c.table_of.result.now forms c.table_of.ensures.table
    (sym c.is_null_alone.ensures ∙ c.if-is_null_alone.false)))
    (fault_given_on (λ (v : Vec ℕ Global). names_at c.table_of.result.now.names v.items) (plain_table c.args.heap.now)
    (key_columns (plain c.table_of.result.now) forms) (λ names. ok_at c.args.id.number (key_set names (plain t)))
    c.in_err-key.field-0.0 c.from_residual.result c.in_err-key.ensures.answer c.from_residual.ensures.1)

pub returns-clause-answer : goal.returns-clause-answer
returns-clause-answer g c =
    let t : TableSeen = table_at c.args.heap.now c.args.id in
    let forms = map form_seen c.args.forms.now in
    subst (λ (o : Result (Option (ℕ × PlainTable)) Fault). AnswersAs (plain_table c.args.heap.now) o
    c.keyed_change.result)
    (sym (key_change_lent c.args.id.number t c.table_of.result.now forms c.table_of.ensures.table
    (sym c.is_null_alone.ensures ∙ c.if-is_null_alone.false)))
    (step_on (plain_table c.args.heap.now) (key_columns (plain c.table_of.result.now) forms)
    (λ names. ok_at c.args.id.number (key_set names (plain t))) (names_at t.names c.in_ok-key.key.items)
    c.keyed_change.result
    (c.in_ok-key.ensures.answer
    ∙ ap (λ (u : TableSeen). Ok (names_at u.names c.in_ok-key.key.items)) c.table_of.ensures.table)
    c.keyed_change.ensures.answer)
