use Rattle.std.proofs.Common.{◌≡◌, drop}
use Rattle.session_model.proofs.InOrder.{onto}
use Rattle.session_model.specs.Expression.{each}
use Rattle.session_model.specs.Set.{name_by_cell, names_named}
use Rattle.cmd_assign.proofs.places.names_named.Given as goal

-- the names so far, and those that the rest names
abbrev pub invariant-loop-k : goal.invariant-loop-k
invariant-loop-k g l =
    names_named l.names l.column.vector
    ≡ onto l.named.items (each (name_by_cell l.names) (drop l.k l.column.vector.cells))
