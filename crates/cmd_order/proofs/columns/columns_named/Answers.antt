use Rattle.std.proofs.Common.{Global, List, Vec, ℕ, Result, map, subst, sym, ap, ◌∙◌}
use Rattle.cmd_order.proofs.Named.{columns_named-plain, named_places}
use Rattle.cmd_order.proofs.Steps.{fault_given_on}
use Rattle.dt_base.specs.declared.fault.Fault.{Fault}
use Rattle.eval_fail.specs.Answers.{AnswersAs}
use Rattle.written_forms.specs.Seen.{form_seen}
use Rattle.cmd_order.specs.Columns.{column_seen, places_of}
use Rattle.dt_model.specs.Table.{names_at}
use Rattle.row_order.specs.declared.ordering.SortCol.{SortCol}
use Rattle.cmd_order.proofs.columns.columns_named.Goals as goal

pub returns-in_err-columns-clause-answer : goal.returns-in_err-columns-clause-answer
returns-in_err-columns-clause-answer c =
    let named : Vec ℕ Global → List (List ℕ) = λ v. names_at c.args.table.now.names v.items in
    subst (λ (o : Result (List (List ℕ)) Fault). AnswersAs named o c.from_residual.result)
    (sym (columns_named-plain c.args.word.now c.args.table.now (map form_seen c.args.forms.now) c.names.ensures.table))
    (fault_given_on (λ (v : Vec SortCol Global). map (column_seen c.args.table.now.names) v.items) named _ _
    c.in_err-columns.field-0.0 c.from_residual.result c.in_err-columns.ensures.answer c.from_residual.ensures.1)

pub returns-in-Ok-clause-answer : goal.returns-in-Ok-clause-answer
returns-in-Ok-clause-answer c =
    named_places c.args.word.now c.args.table.now (map form_seen c.args.forms.now) c.in_ok-columns.columns.items
    c.in-Ok.places.items c.names.ensures.table c.in_ok-columns.ensures.answer
    (c.in-Ok.ensures ∙ ap places_of c.deref.ensures.value)
