use Rattle.std.proofs.Common.{◌≡◌, map, take}
use Rattle.dt_model.specs.Vector.{picked}
use Rattle.na_vector.specs.Words.{text_cell}
use Rattle.na_vector.proofs.gather.gather_texts.Given as goal

abbrev pub invariant-loop-row : goal.invariant-loop-row
invariant-loop-row l = map text_cell l.out.items ≡ map (picked (map text_cell l.texts)) (take l.row-index l.rows)
