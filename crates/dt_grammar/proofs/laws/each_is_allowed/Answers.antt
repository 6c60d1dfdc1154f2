use Rattle.dt_grammar.proofs.Allowing.{spelled_allowed}
use Rattle.dt_grammar.proofs.laws.each_is_allowed.Goals as goal

pub returns : goal.returns
returns c = spelled_allowed
