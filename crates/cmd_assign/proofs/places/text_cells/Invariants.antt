use Rattle.std.proofs.Common.{◌≡◌, drop}
use Rattle.session_model.proofs.InOrder.{onto}
use Rattle.session_model.specs.Expression.{each}
use Rattle.session_model.specs.Set.{text_cell, text_cells}
use Rattle.cmd_assign.proofs.places.text_cells.Given as goal

-- the texts so far, and those of the rest
abbrev pub invariant-loop-k : goal.invariant-loop-k
invariant-loop-k g l =
    text_cells l.formal l.column.vector
    ≡ onto l.texts.items (each (text_cell l.formal) (drop l.k l.column.vector.cells))
