use Rattle.std.proofs.Common.{◌≡◌, ◌<◌, ◌+◌, ◌∙◌, length, get_or, arith, ap}
use Rattle.std.proofs.lemmas.List.{drop-set-lt, length-set}
use Rattle.assign_sides.proofs.Paired.{pair_next}
use Rattle.assign_sides.specs.Seen.{value_seen}
use Rattle.dt_table.proofs.Putting.{same_at, same_past}
use Rattle.session_model.specs.Assigned.{item_vector}
use Rattle.valued.specs.declared.column.Valued.{Valued}
use Rattle.std.specs.Prelude.{Option}
use Rattle.assign_sides.proofs.targets.pairs.Goals as goal

-- one more target, and the values behind it are as they were
pub loop-k-preserved : goal.loop-k-preserved
loop-k-preserved c =
    let k = c.loop-k.k in
    let n = c.index-names-k.result in
    let v = c.index-values-k.result in
    let there : k < length c.loop-k.values = omega arith in
    let within : k < length c.args.values.now = omega (arith, c.loop-k.invariant.count) in
    let named : k < length c.args.names.now = omega (arith, c.loop-k.invariant.count, c.requires) in
    let same : get_or c.loop-k.values k v ≡ get_or c.args.values.now k v =
    same_at c.loop-k.values c.args.values.now k v c.loop-k.invariant.left in
    let value : c.taken-value.result ≡ get_or c.args.values.now k v =
    c.taken-value.ensures ∙ same in
    record {
      so_far = pair_next c.loop-k.targets.items c.add.new.targets.items c.args.names.now c.args.values.now k
          c.in_ok-name.name n c.item_column.result v c.loop-k.invariant.so_far named within
          (c.in_ok-name.ensures ∙ c.index-names-k.is)
          (c.item_column.ensures ∙ ap (λ (o : Option Valued). item_vector (value_seen o)) value) c.in_ok-add.ensures;
      left = drop-set-lt (k + 1) c.loop-k.values k _ (omega arith)
          ∙ same_past c.loop-k.values c.args.values.now k v there within c.loop-k.invariant.left;
      count = length-set c.loop-k.values k _ ∙ c.loop-k.invariant.count;
    }
