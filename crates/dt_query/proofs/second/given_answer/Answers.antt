use Rattle.bracket_rows.specs.Found.{found_of, is_chosen}
use Rattle.dt_query.proofs.Ordered.{all_given}
use Rattle.dt_query.specs.Answers.{plain_answer}
use Rattle.dt_table.specs.Plain.{plain}
use Rattle.dt_query.proofs.second.given_answer.Goals as goal

pub returns-in-AssignAll-clause-answer : goal.returns-in-AssignAll-clause-answer
returns-in-AssignAll-clause-answer g c =
    all_given (plain_answer c.args.x.now) (is_chosen c.args.found.now) c.args.second.now c.in-AssignAll.args
    c.as_slice.result.now (plain c.args.x.now) (g.V.Vars.bound c.args.vars.now)
    (found_of c.args.x.now c.args.found.now) c.assign_all_answer.result c.in-AssignAll.is c.as_slice.ensures
    c.assign_all_answer.ensures.answer
