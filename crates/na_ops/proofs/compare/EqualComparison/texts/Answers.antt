use Rattle.std.proofs.Common.{◌∙◌}
use Rattle.std.specs.Cmp.Lexicographic.{texts_ties}
use Rattle.na_ops.proofs.compare.EqualComparison.texts.Goals as goal

pub returns : goal.returns
returns c = c.eq.ensures ∙ texts_ties c.args.x.now c.args.y.now
