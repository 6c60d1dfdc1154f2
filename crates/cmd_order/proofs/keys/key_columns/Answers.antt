use Rattle.std.proofs.Common.{Global, List, Result, Vec, ℕ, map, subst}
use Rattle.std.proofs.lemmas.List.{length-map}
use Rattle.cmd_order.proofs.KeyFacts.{key_columns-none}
use Rattle.dt_base.specs.declared.fault.Fault.{Fault}
use Rattle.dt_model.specs.Table.{names_at}
use Rattle.eval_fail.specs.Answers.{AnswersAs}
use Rattle.written_forms.specs.Seen.{form_seen}
use Rattle.cmd_order.proofs.keys.key_columns.Goals as goal

pub returns-in-empty-clause-answer : goal.returns-in-empty-clause-answer
returns-in-empty-clause-answer c =
    let named : Vec ℕ Global → List (List ℕ) = λ v. names_at c.args.table.now.names v.items in
    subst (λ (o : Result (List (List ℕ)) Fault). AnswersAs named o c.all_columns.result)
    (key_columns-none c.args.table.now (map form_seen c.args.forms.now) c.names.ensures.table
    (rw length-map c.in-empty.len_below)) c.all_columns.ensures.answer
