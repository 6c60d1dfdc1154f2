use Rattle.std.proofs.Common.{◌∙◌, ap}
use Rattle.table_heap.specs.Altered.{table_with}
use Rattle.table_heap.proofs.WithIndex.{altered_added}
use Rattle.table_heap.proofs.altered.alter.Goals as goal

pub returns-clause-plain : goal.returns-clause-plain
returns-clause-plain g c =
    c.change.ensures.plain
    ∙ (ap (λ t. table_with t c.args.parts) c.add.ensures ∙ altered_added c.args.table.now c.args.index c.args.parts)
