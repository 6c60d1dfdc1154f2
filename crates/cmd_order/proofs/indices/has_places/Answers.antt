use Rattle.std.proofs.Common.{sym, ◌∙◌}
use Rattle.cmd_order.proofs.IndexFacts.{none_more, over_here}
use Rattle.cmd_order.proofs.indices.has_places.Goals as goal

pub returns-then-is_over : goal.returns-then-is_over
returns-then-is_over c =
    over_here c.args.cols.now c.args.table.now.indices c.loop-k.k c.index.result.now c.index.ensures
    (sym c.is_over.ensures ∙ c.if-is_over.true)

pub loop-k-preserved : goal.loop-k-preserved
loop-k-preserved c =
    none_more c.args.cols.now c.args.table.now.indices c.loop-k.k c.index.result.now c.index.ensures
    (sym c.is_over.ensures ∙ c.if-is_over.false) c.loop-k.invariant
