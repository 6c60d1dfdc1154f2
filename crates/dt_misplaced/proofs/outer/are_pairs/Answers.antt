use Rattle.std.proofs.Common.{◌∙◌, sym}
use Rattle.dt_misplaced.proofs.Chains.{pairs_are_named}
use Rattle.dt_misplaced.proofs.outer.are_pairs.Goals as goal

pub returns-then-not-is_empty : goal.returns-then-not-is_empty
returns-then-not-is_empty c = c.all_named.ensures ∙ pairs_are_named c.args.args.now (sym c.if-not-is_empty.ensures)
