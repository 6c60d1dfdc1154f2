use Rattle.std.proofs.Common.{◌∙◌}
use Rattle.table_heap.proofs.Bounds.{lookup-bounds}
use Rattle.table_heap.proofs.names.look_up.Goals as goal

pub returns : goal.returns
returns c = c.get.ensures.value ∙ lookup-bounds c.args.names.now.entries c.args.name.now
