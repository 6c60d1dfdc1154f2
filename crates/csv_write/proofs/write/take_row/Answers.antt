use Rattle.std.proofs.Common.{arith}
use Rattle.csv.specs.Records.{fields_of}
use Rattle.dt_base.specs.Cell.{seen}
use Rattle.csv_write.proofs.WriteFacts.{row_next}
use Rattle.csv_write.proofs.write.take_row.Goals as goal

-- one cell more
pub loop-c-preserved : goal.loop-c-preserved
loop-c-preserved g c = (
  row_next (fields_of c.loop-c.row) (fields_of c.push_cell.new.row) c.args.frame.now.columns c.loop-c.c c.args.r
      c.col.result.now (seen c.cell.result) _
      c.col.ensures.place c.in_ok-push_cell.ensures.fields c.cell.ensures.value c.loop-c.invariant.0,
  c.in_ok-push_cell.ensures.partial,
  omega (arith, c.cell.ensures.touches, c.loop-c.invariant.2),
)
