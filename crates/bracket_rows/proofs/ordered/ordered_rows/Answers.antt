use Rattle.std.proofs.Common.{rules, ◌∙◌, ap, map, subst, sym}
use Rattle.bracket_rows.proofs.InOrder.{call_means, order_gives}
use Rattle.bracket_rows.specs.Found.{found_of}
use Rattle.bracket_rows.specs.Ordered.{column_seen}
use Rattle.dt_table.specs.Plain.{plain}
use Rattle.eval_fail.specs.Answers.{AnswersAs}
use Rattle.session_model.specs.Found.{rows_ordered}
use Rattle.bracket_rows.proofs.ordered.ordered_rows.Goals as goal

pub returns-in_err-bind-clause-answer : goal.returns-in_err-bind-clause-answer
returns-in_err-bind-clause-answer g c =
    subst (λ o. AnswersAs (found_of c.args.x.now) o c.from_residual.result)
    (sym (call_means c.args.x.now c.args.args.now c.names.ensures.table)) (search rules)

pub returns-in_err-by-clause-answer : goal.returns-in_err-by-clause-answer
returns-in_err-by-clause-answer g c =
    subst (λ o. AnswersAs (found_of c.args.x.now) o c.from_residual-in_err-by.result)
    (sym (call_means c.args.x.now c.args.args.now c.names.ensures.table)) (search rules)

pub returns-clause-answer : goal.returns-clause-answer
returns-clause-answer g c =
    order_gives c.args.x.now c.args.args.now c.in_ok-bind.field-0
    (map (column_seen c.args.x.now.names) c.in_ok-by.by.items)
    (found_of c.args.x.now c.in_ok-rows_ordered.field-0)
    c.names.ensures.table c.in_ok-bind.ensures.answer c.in_ok-by.ensures.answer
    (c.in_ok-rows_ordered.ensures.found
    ∙ ap (λ by. rows_ordered (plain c.args.x.now) (map (column_seen c.args.x.now.names) by)) c.deref.ensures.value)
