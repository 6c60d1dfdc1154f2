use Rattle.stmt_effect.proofs.printed.bare.Goals as goal

pub returns-clause-fits : goal.returns-clause-fits
returns-clause-fits g c = record {
  table = c.table_change.ensures.fits c.args.heap.now c.args.given.value c.requires.altered;
  name = tt;
}
