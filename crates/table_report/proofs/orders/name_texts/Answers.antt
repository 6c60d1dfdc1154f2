use Rattle.std.proofs.Common.{arith}
use Rattle.table_report.proofs.Reading.{name_more}
use Rattle.table_report.proofs.orders.name_texts.Goals as goal

pub loop-c-preserved : goal.loop-c-preserved
loop-c-preserved c =
    name_more c.args.table.now.names c.args.cols.now c.loop-c.c-index c.loop-c.texts.items c.add.new.texts.items
    c.name.result.now (omega arith) c.name.ensures c.loop-c.invariant (rw c.in_ok-copy.ensures at c.in_ok-add.ensures)
