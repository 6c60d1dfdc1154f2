use Rattle.std.proofs.Common.{subst, sym}
use Rattle.stmt_change.specs.Effects.{FitsIn}
use Rattle.stmt_effect.proofs.assigned.assigned.Goals as goal

pub returns-clause-fits : goal.returns-clause-fits
returns-clause-fits g c h live =
    subst (FitsIn h) (sym c.changes.ensures.change) (record {
      table = c.table_change-table.ensures.fits h c.args.given.value live.altered;
      name = c.in_ok-name.ensures.fits h live.value;
    })
