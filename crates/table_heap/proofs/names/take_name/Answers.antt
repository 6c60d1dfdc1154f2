use Rattle.std.proofs.Common.{◌∙◌}
use Rattle.table_heap.proofs.Bounds.{bounds-removed, lookup-bounds}
use Rattle.table_heap.proofs.names.take_name.Goals as goal

pub returns-clause-names : goal.returns-clause-names
returns-clause-names c = bounds-removed c.args.name.now c.args.names.now c.swap_remove.new.self
    c.swap_remove.ensures.updates

pub returns-clause-old : goal.returns-clause-old
returns-clause-old c = c.swap_remove.ensures.value ∙ lookup-bounds c.args.names.now.entries c.args.name.now
