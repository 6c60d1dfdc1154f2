use Rattle.std.proofs.Common.{◌≡◌, length, ap, ◌∙◌, rules}
use Rattle.dt_model.specs.Vector.{Vector}
use Rattle.assign_ref.specs.Seen.{rows_seen}
use Rattle.assign_ref.proofs.Placing.{begins_long}
use Rattle.assign_ref.proofs.change.add_part.Goals as goal

-- it has a cell for each row
pub returns-clause-fits : goal.returns-clause-fits
returns-clause-fits g c =
    let n : c.rows.result ≡ c.args.t.now.frame.rows = search rules in
    ap (λ (v : Vector). length v.cells) c.in_ok-with.ensures.vector
    ∙ (begins_long c.rows.result (rows_seen c.args.rows) c.args.value.vector (rw n c.requires.fits) ∙ n)
