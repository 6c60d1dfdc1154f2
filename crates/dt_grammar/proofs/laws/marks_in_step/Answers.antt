use Rattle.dt_grammar.proofs.Marks.{in_step}
use Rattle.dt_grammar.proofs.laws.marks_in_step.Goals as goal

pub returns : goal.returns
returns c = λ ts ss d. in_step d
