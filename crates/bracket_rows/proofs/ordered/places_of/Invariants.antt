use Rattle.std.proofs.Common.{◌≡◌, Some, map, take}
use Rattle.bracket_rows.proofs.ordered.places_of.Given as goal

abbrev pub invariant-loop-row : goal.invariant-loop-row
invariant-loop-row l = l.places.items ≡ map Some (take l.row-index l.rows)
