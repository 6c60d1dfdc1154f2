use Rattle.std.proofs.Common.{◌≡◌, Ok, Result, ap, map, subst, sym, ◌∙◌}
use Rattle.cmd_order.proofs.IndexFacts.{set_index_by}
use Rattle.cmd_order.proofs.Steps.{fault_given_on}
use Rattle.cmd_order.specs.Tables.{index_change, table_effect}
use Rattle.dt_base.specs.declared.fault.Fault.{Fault}
use Rattle.dt_model.specs.Table.{PlainTable}
use Rattle.dt_table.specs.Plain.{plain}
use Rattle.eval_fail.specs.Answers.{AnswersAs}
use Rattle.session_model.specs.Effect.{Effect}
use Rattle.session_model.specs.Meaning.{arg_meaning}
use Rattle.session_model.specs.Orders.{columns_written}
use Rattle.stmt_change.specs.Effects.{plain_effect, plain_table}
use Rattle.stmt_change.specs.Places.{table_at}
use Rattle.table_heap.specs.State.{state_of}
use Rattle.written_forms.specs.Seen.{form_seen}
use Rattle.cmd_order.proofs.indices.set_index.Goals as goal

pub returns-in_err-change-clause-answer : goal.returns-in_err-change-clause-answer
returns-in_err-change-clause-answer g c =
    let t : PlainTable = plain (table_at c.args.setting.now.heap.now c.in_ok-id.id) in
    let forms = map form_seen c.deref.result.now in
    let is : Ok (columns_written (map arg_meaning c.args.args.now)) ≡ Ok (map form_seen c.in_ok-forms.forms.items) =
    c.in_ok-forms.ensures.forms in
    let written : columns_written (map arg_meaning c.args.args.now) ≡ map form_seen c.in_ok-forms.forms.items = cc in
    subst (λ (o : Result Effect Fault). AnswersAs (plain_effect c.args.setting.now.heap.now) o
    c.from_residual-in_err-change.result)
    (sym (set_index_by (map arg_meaning c.args.args.now) (state_of c.args.setting.now.heap.now) c.in_ok-id.id.number t
    forms c.in_ok-id.ensures.answer (written ∙ ap (map form_seen) (sym c.deref.ensures.value))))
    (fault_given_on (plain_table c.args.setting.now.heap.now) (plain_effect c.args.setting.now.heap.now)
    (index_change (c.in_ok-id.id.number, t) forms) (λ o. Ok (table_effect o)) c.in_err-change.field-0.0
    c.from_residual-in_err-change.result c.in_err-change.ensures.answer c.from_residual-in_err-change.ensures.1)
