use Rattle.std.proofs.Common.{◌∙◌, sym}
use Rattle.dt_table.proofs.Names.{IsDistinct-from_none}
use Rattle.cmd_assign.proofs.rename_call.check_distinct.Goals as goal

pub returns-in-None-clause-distinct : goal.returns-in-None-clause-distinct
returns-in-None-clause-distinct c = IsDistinct-from_none c.args.names.now (sym c.in_ok-place.ensures ∙ c.in-None.is)
