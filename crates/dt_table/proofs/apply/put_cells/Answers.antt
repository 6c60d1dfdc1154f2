use Rattle.std.proofs.Common.{◌≡◌, ◌+◌, ◌<◌, length, get_or, drop, arith, ◌∙◌}
use Rattle.std.proofs.lemmas.List.{drop-set-lt, get_or_default, length-set}
use Rattle.na_vector.specs.Words.{text_count}
use Rattle.dt_table.specs.Change.{texts_in}
use Rattle.dt_table.proofs.Putting.{same_at, same_past, left_typed, put_more, texts_more, set_again}
use Rattle.dt_table.proofs.apply.put_cells.Goals as goal

-- the cell is as it was, and of the column's type
pub put-requires-clause-typed : goal.put-requires-clause-typed
put-requires-clause-typed g c =
    let within : c.loop-k.k < length c.args.cells.now = omega (arith, c.requires.each) in
    let there : c.loop-k.k < length c.loop-k.cells = omega (arith, c.loop-k.invariant.count) in
    let at : c.replace-v.result ≡ get_or c.loop-k.cells c.loop-k.k c.replace-v.result = c.replace-v.ensures.value
    ∙ get_or_default c.loop-k.cells c.loop-k.k c.index-cells-k.result c.replace-v.result there in
    rw c.loop-k.invariant.kind (left_typed _ c.loop-k.cells c.args.cells.now c.loop-k.k c.replace-v.result within
    c.loop-k.invariant.left at c.requires.typed)

-- one more cell is written
pub loop-k-preserved : goal.loop-k-preserved
loop-k-preserved g c =
    let within : c.loop-k.k < length c.args.cells.now = omega (arith, c.requires.each) in
    let there : c.loop-k.k < length c.loop-k.cells = omega (arith, c.loop-k.invariant.count) in
    let at : c.replace-v.result ≡ get_or c.loop-k.cells c.loop-k.k c.replace-v.result = c.replace-v.ensures.value
    ∙ get_or_default c.loop-k.cells c.loop-k.k c.index-cells-k.result c.replace-v.result there in
    let v : c.replace-v.result ≡ get_or c.args.cells.now c.loop-k.k c.replace-v.result = at
    ∙ same_at c.loop-k.cells c.args.cells.now c.loop-k.k c.replace-v.result c.loop-k.invariant.left in
    let texts : texts_in (drop c.loop-k.k c.args.cells.now)
    ≡ text_count c.replace-v.result + texts_in (drop (c.loop-k.k + 1) c.args.cells.now) = texts_more
    c.args.cells.now c.loop-k.k c.replace-v.result within v in
    let room = c.loop-k.invariant.room in
    let less = c.put.ensures.room in
    let touches = c.loop-k.invariant.touches in
    let tick = c.put.ensures.touches in
    record {
      cells = put_more c.args.at.now c.args.cells.now _ _ _ c.loop-k.k c.replace-v.result (omega arith) within v
          c.put.ensures.cells c.loop-k.invariant.cells;
      left = drop-set-lt (c.loop-k.k + 1) c.loop-k.cells c.loop-k.k c.replace-v.new.dest (omega arith)
          ∙ same_past c.loop-k.cells c.args.cells.now c.loop-k.k c.replace-v.result there within
          c.loop-k.invariant.left;
      count = length-set c.loop-k.cells c.loop-k.k c.replace-v.new.dest ∙ c.loop-k.invariant.count;
      kind = c.put.ensures.kind ∙ c.loop-k.invariant.kind;
      others = set_again _ _ _ c.args.c _ _ c.loop-k.invariant.others c.put.ensures.others;
      room = omega arith;
      rows = c.put.ensures.rows ∙ c.loop-k.invariant.rows;
      spare = c.put.ensures.spare ∙ c.loop-k.invariant.spare;
      touches = omega arith;
    }
