use Rattle.dt_grammar.proofs.OneAnswer.{each_answered}
use Rattle.dt_grammar.proofs.laws.each_is_answered.Goals as goal

pub returns : goal.returns
returns c = each_answered
