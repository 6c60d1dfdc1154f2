use Rattle.std.proofs.Common.{◌<◌, length, arith, sym, ap, ◌∙◌, Some, ℕ, refl}
use Rattle.std.proofs.lemmas.List.{length-set}
use Rattle.dt_table.proofs.Putting.{put_more}
use Rattle.assign_ref.specs.Values.{value_places}
use Rattle.assign_ref.proofs.Placing.{places_long, value_at}
use Rattle.assign_ref.proofs.values.value_places.Goals as goal

-- one more place is put
pub loop-k-preserved : goal.loop-k-preserved
loop-k-preserved c =
    let n = length c.args.at.now in
    let within : c.loop-k.k < n = c.loop-k-test.true in
    let there : c.loop-k.k < length (value_places c.args.one n) = omega (arith, places_long c.args.one n) in
    record {
      places = put_more c.args.at.now (value_places c.args.one n) _ _ _ c.loop-k.k (Some c.value_place.result) within
          there
          (ap (λ (x : ℕ). Some x) c.value_place.ensures ∙ sym
          (value_at c.args.one n c.loop-k.k (Some c.value_place.result) within)) refl c.loop-k.invariant.places;
      long = length-set _ _ _ ∙ c.loop-k.invariant.long;
    }
