use Rattle.std.proofs.Common.{arith}
use Rattle.dt_table.proofs.OnePart.{IsRoomier-set}
use Rattle.dt_table.proofs.room.reserve_part.Goals as goal

-- one column has more room
pub returns-in-Write-clause-more : goal.returns-in-Write-clause-more
returns-in-Write-clause-more c =
    let fits = (rw c.in-Write.is at c.requires) in
    IsRoomier-set c.args.frame.now c.reserve_cells.new.self c.in-Write.col fits c.reserve_cells.ensures.vector
    c.reserve_cells.ensures.more c.reserve_cells.ensures.others c.reserve_cells.ensures.rows
    (omega (arith, c.reserve_cells.ensures.spare))
