use Rattle.dt_grammar.proofs.OneAnswer.{one_code_script}
use Rattle.dt_grammar.proofs.laws.one_code_script.Goals as goal

pub returns : goal.returns
returns c = one_code_script
