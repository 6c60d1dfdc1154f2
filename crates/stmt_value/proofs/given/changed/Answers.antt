use Rattle.std.proofs.Common.{refl}
use Rattle.dt_table.proofs.Applying.{FitsTable-same}
use Rattle.stmt_value.proofs.given.changed.Goals as goal

-- the room that is made differs in spare numbers alone
pub apply-requires-clause-fits : goal.apply-requires-clause-fits
apply-requires-clause-fits g c =
    FitsTable-same c.args.table c.reserve_change.new.self c.args.parts c.args.parts c.names-names.ensures.table c.reserve_change.ensures.same refl c.requires
