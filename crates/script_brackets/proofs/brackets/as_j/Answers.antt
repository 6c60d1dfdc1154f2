use Rattle.std.proofs.Common.{sym, ◌∙◌}
use Rattle.dt_grammar.proofs.Trees.{item_of_second-Value}
use Rattle.script_frames.proofs.StepViews.{as_j_other}
use Rattle.script_brackets.proofs.brackets.as_j.Goals as goal

pub returns-in_default : goal.returns-in_default
returns-in_default c = item_of_second-Value c.args.operand ∙ sym (as_j_other c.args.operand c.in_default.not-Call)
