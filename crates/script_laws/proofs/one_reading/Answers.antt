use Rattle.dt_grammar.proofs.OneAnswer.{one_reading, one_refusal, not_both}
use Rattle.script_laws.proofs.one_reading.Goals as goal

pub returns : goal.returns
returns c = record {
  script = one_reading c.one_answer.ensures;
  fault = one_refusal c.one_answer.ensures;
  either = not_both c.one_answer.ensures;
}
