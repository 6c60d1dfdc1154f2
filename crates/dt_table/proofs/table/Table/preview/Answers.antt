use Rattle.std.proofs.Common.{◌∙◌, ap}
use Rattle.dt_table.specs.Change.{parts_seen}
use Rattle.dt_table.specs.Table.{HasSame}
use Rattle.dt_table.proofs.Applying.{FitsTable-same, HasSame-trans}
use Rattle.dt_table.proofs.table.Table.preview.Goals as goal

-- the copy differs in spare numbers alone
pub reserve_change-requires : goal.reserve_change-requires
reserve_change-requires g c = record {
  fits =
      FitsTable-same c.args.self.now c.in_ok-table.table _ _ c.names.ensures.table c.in_ok-table.ensures.same
      (c.in_ok-parts.ensures.parts ∙ ap parts_seen c.deref.ensures.value) (rw (← c.ch.view_is) at c.requires.fits);
}

pub apply-requires-clause-fits : goal.apply-requires-clause-fits
apply-requires-clause-fits g c =
    let same : HasSame c.in_ok-table.table c.reserve_change.new.self = c.reserve_change.ensures.same in
    FitsTable-same c.args.self.now c.reserve_change.new.self _ _ c.names.ensures.table
    (HasSame-trans _ _ _ c.in_ok-table.ensures.same same)
    (c.in_ok-parts.ensures.parts ∙ ap parts_seen c.deref.ensures.value) (rw (← c.ch.view_is) at c.requires.fits)
