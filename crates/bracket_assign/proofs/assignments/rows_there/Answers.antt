use Rattle.bracket_assign.proofs.Rows.{there_more}
use Rattle.bracket_assign.proofs.assignments.rows_there.Goals as goal

-- one more row, where there is one
pub loop-row-preserved : goal.loop-row-preserved
loop-row-preserved c =
    there_more c.loop-row.rows.items c.add_row.new.rows.items c.args.positions.now c.loop-row.row-index _
    c.loop-row.invariant c.loop-row-test.true c.in_ok-add_row.ensures
