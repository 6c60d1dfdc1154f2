use Rattle.script_laws.proofs.Standing.{none_misplaced}
use Rattle.script_laws.proofs.none_misplaced.Goals as goal

pub returns : goal.returns
returns c = λ ts ss d. none_misplaced ts ss (c.marks_in_step.ensures ts ss d)
