use Rattle.std.proofs.Common.{◌≡◌, map, take, Some}
use Rattle.dt_table.proofs.keys.row_places.Given as goal

abbrev pub invariant-loop-row : goal.invariant-loop-row
invariant-loop-row l = l.places.items ≡ map Some (take l.row-index l.rows)
