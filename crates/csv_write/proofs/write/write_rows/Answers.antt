use Rattle.std.proofs.Common.{◌++◌, ap, ◌∙◌, arith}
use Rattle.csv.specs.Writing.{default_writer, row_text}
use Rattle.csv_write.specs.Written.{written}
use Rattle.csv_write.proofs.WriteFacts.{rows_next}
use Rattle.na_vector.specs.Frame.{vectors_of}
use Rattle.csv_write.proofs.write.write_rows.Goals as goal

-- one row more
pub loop-r-preserved : goal.loop-r-preserved
loop-r-preserved g c = (
  c.in_ok-write_record.ensures.idle,
  rows_next (vectors_of c.args.frame.now.columns) (written c.loop-r.writer) (written c.write_record.new.writer)
      c.loop-r.r c.args.frame.now.rows _
      (omega (arith, c.rows-r-end.ensures.count))
      (c.in_ok-write_record.ensures.text ∙ ap (λ fields. written c.loop-r.writer ++ row_text default_writer fields)
      c.in_ok-take_row.ensures.cells)
      c.loop-r.invariant.1,
  omega (arith, c.in_ok-take_row.ensures.touches, c.loop-r.invariant.2),
)
