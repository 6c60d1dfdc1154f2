use Rattle.std.proofs.Common.{rules, ◌∙◌, ap, subst, sym}
use Rattle.dt_query.proofs.FoundFacts.{found_means, of_found}
use Rattle.dt_query.proofs.second.found_table.Goals as goal
use Rattle.dt_table.specs.Plain.{plain}
use Rattle.eval_fail.specs.Answers.{AnswersAs}
use Rattle.na_vector.specs.Frame.{vectors_of}
use Rattle.session_model.specs.Value.{new_table}

pub returns-in_err-table-clause-answer : goal.returns-in_err-table-clause-answer
returns-in_err-table-clause-answer g c =
    subst (λ o. AnswersAs plain o c.from_residual-in_err-table.result)
    (found_means c.args.x.now c.args.found.now c.in_ok-frame.frame c.names.result.now c.names.ensures.table
    c.names.ensures.names c.in_ok-frame.ensures.vectors c.in_ok-frame.ensures.rows)
    (search rules)

pub returns-clause-answer : goal.returns-clause-answer
returns-clause-answer g c =
    sym (found_means c.args.x.now c.args.found.now c.in_ok-frame.frame c.names.result.now c.names.ensures.table
    c.names.ensures.names c.in_ok-frame.ensures.vectors c.in_ok-frame.ensures.rows)
    ∙ c.in_ok-table.ensures.answer

pub returns-clause-columns : goal.returns-clause-columns
returns-clause-columns g c =
    of_found c.args.x.now c.in_ok-table.table c.args.found.now c.in_ok-frame.frame c.names.ensures.table
    c.names-2.ensures.table c.width.ensures.frame c.in_ok-frame.ensures.vectors c.in_ok-frame.ensures.rows
    (ap (λ names. new_table names c.in_ok-frame.frame.rows (vectors_of c.in_ok-frame.frame.columns))
    (sym c.names.ensures.names)
    ∙ c.in_ok-table.ensures.answer)
