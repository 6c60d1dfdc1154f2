use Rattle.std.proofs.Common.{◌≡◌, ◌<◌, ◌≤◌, ◌+◌, ℕ, ◌∷◌, length, drop, arith, rules, sym, ◌∙◌, ap, false}
use Rattle.std.proofs.lemmas.List.{drop_all, length-set}
use Rattle.dt_table.specs.Change.{key_changed, is_named, parts_seen}
use Rattle.dt_table.proofs.InPlace.{moved_on, done_at, key_on, key_stops, one_read}
use Rattle.dt_table.proofs.orders.cut_key.Goals as goal
use Rattle.dt_table.proofs.orders.cut_key.Goals.{then-loop-k-test+else-not-is_named, else-loop-k-test}

-- one more column of the key is moved
pub loop-k-preserved : goal.loop-k-preserved
loop-k-preserved c =
    let within : c.loop-k.k < length c.loop-k.key.items = search rules in
    let same : c.index.result.now ≡ c.index-in-loop-k.result.now = one_read c.loop-k.key.items c.loop-k.k _ _ within
    c.index.ensures c.index-in-loop-k.ensures in
    let free : is_named (parts_seen c.args.parts.now) c.index-in-loop-k.result.now
    ≡ false = ap (is_named (parts_seen c.args.parts.now)) (sym same)
    ∙ (sym c.is_named.ensures ∙ c.if-not-is_named.true) in
    let count = length-set c.loop-k.key.items c.loop-k.k c.stays_before.result in
    record {
      moved = moved_on (key_changed (parts_seen c.args.parts.now)) c.loop-k.key.items _ c.loop-k.k
          c.index-in-loop-k.result.now c.stays_before.result within c.index-in-loop-k.ensures
          (key_on (parts_seen c.args.parts.now) c.index-in-loop-k.result.now
          (drop (c.loop-k.k + 1) c.loop-k.key.items) free
          ∙ ap (λ (n : ℕ). n ∷ key_changed (parts_seen c.args.parts.now)
          (drop (c.loop-k.k + 1) c.loop-k.key.items)) (sym c.stays_before.ensures))
          c.loop-k.invariant.moved;
      bound = omega arith;
    }

-- the rest of the key is cut off
pub returns : goal.returns
returns c = c.truncate.ensures.items ∙ done_at (key_changed (parts_seen c.args.parts.now)) c.loop-k.key.items _
    c.loop-k.k
    (elim c.loop-k-test.branch [
      | then-loop-k-test+else-not-is_named w ↦ (let within : c.loop-k.k < length c.loop-k.key.items = search rules in
          key_stops (parts_seen c.args.parts.now) c.loop-k.key.items c.loop-k.k w.index.result.now within
          w.index.ensures (sym w.is_named.ensures ∙ w.if-not-is_named.false))
      | else-loop-k-test w ↦ (let over : length c.loop-k.key.items ≤ c.loop-k.k = omega (arith, w.loop-k-test) in ap
          (key_changed (parts_seen c.args.parts.now)) (drop_all c.loop-k.k c.loop-k.key.items over))
    ]) c.loop-k.invariant.moved
