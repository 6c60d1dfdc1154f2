use Rattle.std.proofs.Common.{◌≡◌, map, length}
use Rattle.row_model.specs.Lengths.{repeated}
use Rattle.na_vector.specs.Frame.{rows_with, vectors_of}
use Rattle.valued.specs.declared.column.Valued.{Valued}
use Rattle.bracket_columns.proofs.lists.repeated_columns.Given as goal

abbrev pub invariant-loop-value : goal.invariant-loop-value
invariant-loop-value g l =
    (vectors_of l.frame.columns ≡ map (λ (v : Valued). repeated l.n v.column.vector) l.yielded)
    × (l.frame.rows ≡ rows_with (length l.yielded) l.n)
    × (length l.frame.columns ≡ length l.yielded)
