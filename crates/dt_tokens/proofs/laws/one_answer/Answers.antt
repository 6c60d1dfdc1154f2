use Rattle.dt_tokens.proofs.One.{spells_one, fault_one, not_both}
use Rattle.run_model.specs.Tokens.{unmarked}
use Rattle.dt_tokens.proofs.laws.one_answer.Goals as goal

pub returns : goal.returns
returns c = record {
  tokens = λ s ts us a b. spells_one (unmarked s) ts us a.spelled b.spelled;
  fault = fault_one;
  either = not_both;
}
