use Rattle.std.proofs.Common.{◌≡◌, map, take, All}
use Rattle.dt_model.specs.Vector.{picked}
use Rattle.na_vector.specs.Words.{lgl_cell, IsLglWord}
use Rattle.na_vector.proofs.gather.gather_lgls.Given as goal

abbrev pub invariant-loop-row : goal.invariant-loop-row
invariant-loop-row l = (map lgl_cell l.out.items ≡ map (picked (map lgl_cell l.words)) (take l.row-index l.rows))
    × All IsLglWord l.out.items
