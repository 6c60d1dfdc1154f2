use Rattle.std.proofs.Common.{arith}
use Rattle.table_report.proofs.Reading.{behind_more}
use Rattle.table_report.proofs.orders.names_behind.Goals as goal

pub loop-c-preserved : goal.loop-c-preserved
loop-c-preserved c =
    rw (c.in_ok-push_str-2.ensures.bytes, c.in_ok-push_str.ensures.bytes, c.as_str.ensures)
    (behind_more c.args.table.now.names c.args.cols.now c.loop-c.c-index _ c.name.result.now _ (omega arith)
    c.name.ensures c.loop-c.invariant)
