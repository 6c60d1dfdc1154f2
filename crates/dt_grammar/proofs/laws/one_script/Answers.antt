use Rattle.dt_grammar.proofs.Complete.{one_script}
use Rattle.dt_grammar.proofs.laws.one_script.Goals as goal

pub returns : goal.returns
returns c = λ ts ss others d e. one_script d e
