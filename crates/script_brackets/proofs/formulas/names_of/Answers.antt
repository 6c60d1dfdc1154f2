use Rattle.std.proofs.Common.{sym}
use Rattle.script_frames.proofs.Sums.{names_of_other}
use Rattle.script_brackets.proofs.formulas.names_of.Goals as goal

pub returns-in_default : goal.returns-in_default
returns-in_default c = sym (names_of_other c.args.operand.now c.in_default.not-Name c.in_default.not-Chain)
