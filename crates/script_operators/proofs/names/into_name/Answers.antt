use Rattle.std.proofs.Common.{sym}
use Rattle.script_frames.proofs.Sums.{bare_name_other}
use Rattle.script_operators.proofs.names.into_name.Goals as goal

pub returns-in_default : goal.returns-in_default
returns-in_default c = sym (bare_name_other c.args.operand c.in_default.not-Name)
