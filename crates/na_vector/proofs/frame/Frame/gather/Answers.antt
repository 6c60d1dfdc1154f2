use Rattle.std.proofs.Common.{◌≡◌, length, arith, ◌∙◌, sym}
use Rattle.std.proofs.lemmas.List.{length-map}
use Rattle.na_vector.proofs.Gathering.{vectors_of-more, rows_with-more, length-more, touches-more, touches-within}
use Rattle.na_vector.proofs.frame.Frame.gather.Goals as goal

-- the gathered column stands last, and its places were touched
pub loop-c-preserved : goal.loop-c-preserved
loop-c-preserved g c =
    let long : length c.in_ok-gather.field-0.vector.cells ≡ length c.args.rows.now =
    rw c.in_ok-gather.ensures.ok (length-map _ _) in
    record {
      columns = rw c.in_ok-push_col.ensures.ok
          (vectors_of-more _ _ _ _ _ _ c.loop-c.invariant.columns c.col.ensures.place c.in_ok-gather.ensures.ok);
      rows = c.in_ok-push_col.ensures.rows ∙ (long ∙ sym (rows_with-more c.loop-c.c (length c.args.rows.now)));
      width = rw c.in_ok-push_col.ensures.ok (length-more _ _ _ c.loop-c.invariant.width);
      touches = touches-more _ _ _ _ _ c.loop-c.invariant.touches c.in_ok-gather.ensures.touches;
    }

-- the last column's cells were touched, and no column's after it
pub returns-in_err-gather-clause-at_most : goal.returns-in_err-gather-clause-at_most
returns-in_err-gather-clause-at_most g c =
    touches-within _ _ _ _ _ _ (omega arith) c.loop-c.invariant.touches c.in_err-gather.ensures.touches

pub returns-in_err-push_col-clause-at_most : goal.returns-in_err-push_col-clause-at_most
returns-in_err-push_col-clause-at_most g c =
    touches-within _ _ _ _ _ _ (omega arith) c.loop-c.invariant.touches c.in_ok-gather.ensures.touches
