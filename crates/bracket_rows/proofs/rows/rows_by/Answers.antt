use Rattle.std.proofs.Common.{rules}
use Rattle.bracket_rows.proofs.Kept.{logical_stand}
use Rattle.bracket_rows.proofs.rows.rows_by.Goals as goal

-- a logical i lets its rows stand as they stood
pub returns-clause-order : goal.returns-clause-order
returns-clause-order g c h =
    logical_stand c.rows.result c.width.result c.args.column.now.vector c.in_ok-positions.positions.items
    c.of_columns.result.items (search rules) (search rules) (search rules)
