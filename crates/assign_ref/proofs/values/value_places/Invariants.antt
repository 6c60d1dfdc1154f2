use Rattle.std.proofs.Common.{◌≡◌, drop, length, replicate, None}
use Rattle.dt_table.specs.Table.{put_in_order}
use Rattle.assign_ref.specs.Values.{value_places}
use Rattle.assign_ref.proofs.values.value_places.Given as goal

-- what is left to be put makes of the places what all makes of none
abbrev pub invariant-loop-k : goal.invariant-loop-k
invariant-loop-k l = record {
  places : put_in_order (drop l.k l.at) (drop l.k (value_places l.one (length l.at))) l.places.items
      ≡ put_in_order l.at (value_places l.one (length l.at)) (replicate l.n None);
  long : length l.places.items ≡ l.n;
}
