use Rattle.std.proofs.Common.{length}
use Rattle.auto_index.proofs.Fitting.{fits_new, one_column}
use Rattle.auto_index.proofs.statements.index_of.Goals as goal

pub make_index-requires-clause-cols : goal.make_index-requires-clause-cols
make_index-requires-clause-cols g c = one_column (length c.args.t.now.names) c.args.col c.requires.within

pub returns-clause-fits : goal.returns-clause-fits
returns-clause-fits g c =
    fits_new c.args.t.now c.args.col c.make_index.result c.key-key.ensures.table c.requires c.make_index.ensures.index
    c.make_index.ensures.cols
