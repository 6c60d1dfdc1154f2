use Rattle.bracket_forms.specs.Items.{asked_seen}
use Rattle.bracket_rows.specs.Found.{found_of, is_chosen}
use Rattle.dt_query.proofs.Ordered.{in_order}
use Rattle.dt_query.specs.Answers.{plain_answer}
use Rattle.dt_table.specs.Plain.{plain}
use Rattle.dt_query.proofs.query.asked_answer.Goals as goal

pub returns-clause-answer : goal.returns-clause-answer
returns-clause-answer g c =
    in_order (plain_answer c.args.x.now) c.args.q.now (plain c.args.x.now) (g.V.Vars.bound c.args.vars.now)
    (asked_seen c.in_ok-wanted.wanted) (found_of c.args.x.now c.in_ok-rows.rows) (is_chosen c.in_ok-rows.rows)
    c.answer_over.result c.in_ok-rows.ensures.chosen c.in_ok-wanted.ensures.answer c.in_ok-rows.ensures.answer
    c.answer_over.ensures.answer
