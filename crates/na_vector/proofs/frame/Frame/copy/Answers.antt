use Rattle.std.proofs.Common.{◌≡◌, length, ◌∙◌, sym, arith}
use Rattle.na_vector.proofs.Gathering.{vectors_of-same, rows_with-more, length-more, touches-more, touches-within}
use Rattle.na_vector.proofs.frame.Frame.copy.Goals as goal

-- the copied column stands last, and its cells were touched
pub loop-c-preserved : goal.loop-c-preserved
loop-c-preserved g c =
    let long : length c.in_ok-copy.field-0.vector.cells ≡ c.args.self.now.rows =
    rw c.in_ok-copy.ensures.ok c.col.ensures.rows in
    record {
      columns = rw c.in_ok-push_col.ensures.ok
          (vectors_of-same _ _ _ _ _ c.loop-c.invariant.columns c.col.ensures.place c.in_ok-copy.ensures.ok);
      rows = c.in_ok-push_col.ensures.rows ∙ (long ∙ sym (rows_with-more c.loop-c.c c.args.self.now.rows));
      width = rw c.in_ok-push_col.ensures.ok (length-more _ _ _ c.loop-c.invariant.width);
      touches = touches-more _ _ _ _ _ c.loop-c.invariant.touches
          (rw c.col.ensures.rows at c.in_ok-copy.ensures.touches);
    }

-- the last column's cells were touched, and no column's after it
pub returns-in_err-copy-clause-at_most : goal.returns-in_err-copy-clause-at_most
returns-in_err-copy-clause-at_most g c =
    touches-within _ _ _ _ _ _ (omega arith) c.loop-c.invariant.touches
    (rw c.col.ensures.rows at c.in_err-copy.ensures.touches)

pub returns-in_err-push_col-clause-at_most : goal.returns-in_err-push_col-clause-at_most
returns-in_err-push_col-clause-at_most g c =
    touches-within _ _ _ _ _ _ (omega arith) c.loop-c.invariant.touches
    (rw c.col.ensures.rows at c.in_ok-copy.ensures.touches)
