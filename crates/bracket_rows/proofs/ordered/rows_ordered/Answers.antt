use Rattle.std.proofs.Common.{rules}
use Rattle.bracket_rows.proofs.InOrder.{found_in_order, rows_in_order}
use Rattle.bracket_rows.proofs.ordered.rows_ordered.Goals as goal
use Rattle.na_vector.specs.Frame.{vectors_of}
use Rattle.row_order.specs.Columns.{sorting_of}

pub returns-clause-found : goal.returns-clause-found
returns-clause-found g c =
    found_in_order c.args.x.now c.args.by.now c.in_ok-rows.rows.items c.in_ok-positions.positions.items
    c.none.result c.frame.ensures.table c.requires.cols c.requires.na_last (search rules) (search rules) (search rules)

pub returns-clause-rows : goal.returns-clause-rows
returns-clause-rows g c =
    rows_in_order c.args.x.now (sorting_of (vectors_of c.args.x.now.frame.columns) c.args.by.now)
    c.in_ok-rows.rows.items c.in_ok-positions.positions.items c.frame.ensures.table (search rules) (search rules)
