use Rattle.std.proofs.Common.{List, Ok, Option, Result, ap, map, subst, sym, ℕ, ◌∙◌}
use Rattle.cmd_order.proofs.IndexFacts.{index_change_lent}
use Rattle.cmd_order.proofs.Steps.{step_on}
use Rattle.cmd_order.specs.Tables.{index_columns, with_new_index}
use Rattle.dt_base.specs.declared.fault.Fault.{Fault}
use Rattle.dt_model.specs.Table.{PlainTable, names_at}
use Rattle.dt_table.specs.Plain.{plain}
use Rattle.dt_table.specs.Table.{TableSeen}
use Rattle.eval_fail.specs.Answers.{AnswersAs}
use Rattle.stmt_change.specs.Effects.{plain_table}
use Rattle.stmt_change.specs.Places.{table_at}
use Rattle.written_forms.specs.Seen.{form_seen}
use Rattle.cmd_order.proofs.indices.index_change.Goals as goal

pub returns-clause-answer : goal.returns-clause-answer
returns-clause-answer g c =
    let t : TableSeen = table_at c.args.heap.now c.args.id in
    let forms = map form_seen c.args.forms.now in
    subst (λ (o : Result (Option (ℕ × PlainTable)) Fault). AnswersAs (plain_table c.args.heap.now) o
    c.with_new_index.result)
    (sym (index_change_lent c.args.id.number t c.table_of.result.now forms c.table_of.ensures.table
    (sym c.is_null_alone.ensures ∙ c.if-is_null_alone.false)))
    (step_on (plain_table c.args.heap.now) (index_columns (plain c.table_of.result.now) forms)
    (λ names. Ok (with_new_index (c.args.id.number, plain t) names)) (names_at t.names c.deref.result.now)
    c.with_new_index.result
    (c.in_ok-cols.ensures.answer
    ∙ (ap (λ (u : TableSeen). Ok (names_at u.names c.in_ok-cols.cols.items)) c.table_of.ensures.table
    ∙ ap (λ (cols : List ℕ). Ok (names_at t.names cols)) (sym c.deref.ensures.value)))
    c.with_new_index.ensures.answer)
