use Rattle.std.proofs.Common.{◌≡◌, take}
use Rattle.cmd_order.specs.Columns.{places_of}
use Rattle.cmd_order.proofs.columns.column_places.Given as goal

abbrev pub invariant-loop-column : goal.invariant-loop-column
invariant-loop-column l = l.places.items ≡ places_of (take l.column-index l.columns)
