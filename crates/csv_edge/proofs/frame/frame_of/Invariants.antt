use Rattle.std.proofs.Common.{◌≡◌, ◌<◌, ◌++◌, All, length, map}
use Rattle.std.specs.Vec.Iter.{into_iter_items}
use Rattle.csv_edge.specs.Columns.{first_length}
use Rattle.csv_edge.specs.Filling.{filled_vector, IsSound}
use Rattle.na_vector.specs.Frame.{vectors_of}
use Rattle.csv_edge.proofs.frame.frame_of.Given as goal

-- the frame's columns and those that are left are all columns, and they have one length
abbrev pub invariant-loop-column : goal.invariant-loop-column
invariant-loop-column l =
    (goal.iterator-loop-column).can_next l.column-iterator
    × (goal.iterator-loop-column).is_finite l.column-iterator
    × (vectors_of l.frame.columns ++ map filled_vector (into_iter_items l.column-iterator)
    ≡ map filled_vector l.fn.columns.items)
    × All IsSound (into_iter_items l.column-iterator)
    × All (λ column. length (filled_vector column).cells ≡ first_length l.fn.columns.items)
    (into_iter_items l.column-iterator)
    × (0 < length l.frame.columns → l.frame.rows ≡ first_length l.fn.columns.items)
    × (length l.frame.columns ≡ 0 → l.frame.rows ≡ 0)
