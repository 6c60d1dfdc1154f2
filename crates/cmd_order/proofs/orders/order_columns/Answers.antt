use Rattle.std.proofs.Common.{Global, List, Result, Vec, arith, map, subst, sym}
use Rattle.std.proofs.lemmas.List.{length-map}
use Rattle.cmd_order.proofs.KeyFacts.{order_of-some}
use Rattle.cmd_order.specs.Columns.{column_seen}
use Rattle.dt_base.specs.declared.fault.Fault.{Fault}
use Rattle.eval_fail.specs.Answers.{AnswersAs}
use Rattle.row_order.specs.declared.ordering.SortCol.{SortCol}
use Rattle.session_model.specs.OrderColumns.{OrderColumn}
use Rattle.written_forms.specs.Seen.{form_seen}
use Rattle.cmd_order.proofs.orders.order_columns.Goals as goal

pub returns-in_default-clause-answer : goal.returns-in_default-clause-answer
returns-in_default-clause-answer c =
    let seen : Vec SortCol Global → List OrderColumn = λ v. map (column_seen c.args.table.now.names) v.items in
    subst (λ (o : Result (List OrderColumn) Fault). AnswersAs seen o c.distinct_columns.result)
    (sym (order_of-some c.args.table.now (map form_seen c.args.forms.now) c.names.ensures.table
    (rw length-map (omega arith)))) c.distinct_columns.ensures.answer
