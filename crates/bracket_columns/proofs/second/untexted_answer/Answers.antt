use Rattle.bracket_columns.proofs.TextFacts.{called}
use Rattle.bracket_columns.proofs.second.untexted_answer.Goals as goal
use Rattle.bracket_columns.specs.Answers.{computed_seen}

pub returns-in-Call-clause-answer : goal.returns-in-Call-clause-answer
returns-in-Call-clause-answer g c =
    called computed_seen c.args.j.now c.in-Call.name c.as_str.result.now c.in-Call.args c.as_slice.result.now _
    c.call_answer.result c.in-Call.is c.as_str.ensures c.as_slice.ensures c.call_answer.ensures.answer
