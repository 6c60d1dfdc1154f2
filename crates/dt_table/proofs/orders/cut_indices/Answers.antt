use Rattle.std.proofs.Common.{◌≡◌, ◌<◌, ◌≤◌, ◌+◌, ◌∷◌, length, drop, arith, rules, sym, ◌∙◌, ap, false}
use Rattle.std.specs.List.{list_any}
use Rattle.std.proofs.lemmas.List.{drop_all, length-set, take_all}
use Rattle.dt_table.specs.Table.{IndexSeen}
use Rattle.dt_table.specs.Change.{indices_changed, is_named, parts_seen}
use Rattle.dt_table.proofs.InPlace.{moved_on, done_at, index_on, index_moved, one_read, touched_read}
use Rattle.dt_table.proofs.orders.cut_indices.Goals as goal

-- one more index stays, and is moved
pub loop-k-preserved : goal.loop-k-preserved
loop-k-preserved c =
    let parts = parts_seen c.args.parts.now in
    let within : c.loop-k.k < length c.loop-k.indices.items = search rules in
    let same : c.index.result.now ≡ c.index_mut.result.now = one_read c.loop-k.indices.items c.loop-k.k _ _ within
    c.index.ensures c.index_mut.ensures.value in
    let free : list_any (is_named parts) c.index_mut.result.now.cols ≡ false =
    ap (λ (i : IndexSeen). list_any (is_named parts) i.cols) (sym same)
    ∙ (touched_read parts c.index.result.now _ _ c.deref.result.now c.is_touched.result c.behind-indices.view_is
    c.deref.ensures.value c.is_touched.ensures ∙ c.if-is_touched.false) in
    let rest = drop (c.loop-k.k + 1) c.loop-k.indices.items in
    record {
      moved = moved_on (indices_changed parts) c.loop-k.indices.items _ c.loop-k.k c.index_mut.result.now _ within
          c.index_mut.ensures.value
          (index_on parts c.index_mut.result.now rest free ∙ ap (λ (i : IndexSeen). i ∷ indices_changed parts rest)
          (index_moved parts c.index_mut.result.now _ _ _ c.behind-indices-else-is_touched.view_is
          c.move_columns.ensures))
          c.loop-k.invariant.moved;
      bound = rw length-set (omega arith);
    }

-- no index is left
pub returns : goal.returns
returns c =
    let all : length c.loop-k.indices.items ≤ c.loop-k.k = search rules in
    sym (take_all c.loop-k.k c.loop-k.indices.items all) ∙ done_at (indices_changed (parts_seen c.args.parts.now))
    c.loop-k.indices.items _ c.loop-k.k (ap (indices_changed (parts_seen c.args.parts.now))
    (drop_all c.loop-k.k c.loop-k.indices.items all)) c.loop-k.invariant.moved
