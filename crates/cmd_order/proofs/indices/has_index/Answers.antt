use Rattle.cmd_order.proofs.IndexFacts.{has_index_named, has_index_placed}
use Rattle.cmd_order.proofs.indices.has_index.Goals as goal

pub returns-clause-named : goal.returns-clause-named
returns-clause-named c =
    has_index_named c.args.table.now c.args.cols.now c.has_places.result c.names.ensures.table c.requires
    c.has_places.ensures

pub returns-clause-placed : goal.returns-clause-placed
returns-clause-placed c = has_index_placed c.args.table.now c.args.cols.now c.has_places.result c.has_places.ensures
