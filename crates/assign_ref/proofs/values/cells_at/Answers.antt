use Rattle.std.proofs.Common.{◌≡◌, ◌==◌, ℕ, IfOk, length, replicate, None, arith, ap, ◌∙◌, subst}
use Rattle.std.proofs.lemmas.List.Elements.{All-same}
use Rattle.dt_model.specs.Vector.{IsWithin, Vector, gathered}
use Rattle.na_vector.specs.Column.{Seen}
use Rattle.dt_table.specs.Table.{put_in_order}
use Rattle.assign_ref.specs.Values.{value_places}
use Rattle.assign_ref.proofs.Placing.{gathered_begins, places_within}
use Rattle.assign_ref.proofs.values.cells_at.Goals as goal

-- each place is one of the value's
pub gather-requires-clause-places : goal.gather-requires-clause-places
gather-requires-clause-places g c =
    let at = c.args.at.now in
    let v = c.args.column.now.vector in
    let places : c.as_slice.result.now ≡ put_in_order at (value_places (length v.cells == 1) (length at))
    (replicate c.args.n None) =
    c.as_slice.ensures.value ∙ (c.in_ok-places.ensures.places
    ∙ ap (λ (m : ℕ). put_in_order at (value_places (m == 1) (length at)) (replicate c.args.n None))
    c.len.ensures.count) in
    All-same (IsWithin (length v.cells)) _ _ places (places_within v c.args.n at c.requires.fits)

pub gather-requires-clause-short : goal.gather-requires-clause-short
gather-requires-clause-short g c =
    let long : length c.as_slice.result.now ≡ c.args.n = ap length c.as_slice.ensures.value
    ∙ c.in_ok-places.ensures.count in
    rw long c.requires.short

-- the gathered column is the new one
pub returns-clause-vector : goal.returns-clause-vector
returns-clause-vector g c =
    let at = c.args.at.now in
    let v = c.args.column.now.vector in
    let places : c.as_slice.result.now ≡ put_in_order at (value_places (length v.cells == 1) (length at))
    (replicate c.args.n None) =
    c.as_slice.ensures.value ∙ (c.in_ok-places.ensures.places
    ∙ ap (λ (m : ℕ). put_in_order at (value_places (m == 1) (length at)) (replicate c.args.n None))
    c.len.ensures.count) in
    subst (λ (x : Vector). IfOk c.gather.result (λ (k : Seen). k.vector ≡ x))
    (ap (gathered v) places ∙ gathered_begins v c.args.n at c.requires.fits) c.gather.ensures.ok

pub returns-clause-touches : goal.returns-clause-touches
returns-clause-touches g c =
    let long : length c.as_slice.result.now ≡ c.args.n = ap length c.as_slice.ensures.value
    ∙ c.in_ok-places.ensures.count in
    let tick = c.gather.ensures.touches in
    omega arith
