use Rattle.std.proofs.Common.{List, Ok, Option, Result, ap, false, map, subst, sym, ℕ, ◌∙◌}
use Rattle.cmd_order.proofs.KeyFacts.{ok_at, order_change_lent}
use Rattle.cmd_order.proofs.Steps.{step_on}
use Rattle.cmd_order.specs.Columns.{column_seen}
use Rattle.cmd_order.specs.Tables.{order_of}
use Rattle.dt_base.specs.declared.fault.Fault.{Fault}
use Rattle.dt_model.specs.Table.{PlainTable}
use Rattle.dt_table.specs.Plain.{plain}
use Rattle.dt_table.specs.Table.{TableSeen}
use Rattle.eval_fail.specs.Answers.{AnswersAs}
use Rattle.order_model.specs.Keys.{order_set}
use Rattle.row_order.specs.declared.ordering.SortCol.{SortCol}
use Rattle.session_model.specs.OrderColumns.{sorting_by}
use Rattle.stmt_change.specs.Effects.{plain_table}
use Rattle.stmt_change.specs.Places.{table_at}
use Rattle.written_forms.specs.Seen.{form_seen}
use Rattle.cmd_order.proofs.orders.order_change.Goals as goal

pub returns-clause-answer : goal.returns-clause-answer
returns-clause-answer g c =
    let t : TableSeen = table_at c.args.heap.now c.args.id in
    let forms = map form_seen c.args.forms.now in
    subst (λ (o : Result (Option (ℕ × PlainTable)) Fault). AnswersAs (plain_table c.args.heap.now) o
    c.ordered_change.result)
    (sym (order_change_lent c.args.id.number t c.table_of.result.now forms c.table_of.ensures.table))
    (step_on (plain_table c.args.heap.now) (order_of (plain c.table_of.result.now) forms)
    (λ cs. ok_at c.args.id.number (order_set (map (sorting_by (plain t) false) cs) (plain t)))
    (map (column_seen t.names) c.deref.result.now) c.ordered_change.result
    (c.in_ok-by.ensures.answer
    ∙ (ap (λ (u : TableSeen). Ok (map (column_seen u.names) c.in_ok-by.by.items)) c.table_of.ensures.table
    ∙ ap (λ (by : List SortCol). Ok (map (column_seen t.names) by)) (sym c.deref.ensures.value)))
    c.ordered_change.ensures.answer)
