use Rattle.std.proofs.Common.{◌≡◌, ◌+◌, ◌++◌, All, length, map, drop}
use Rattle.dt_model.specs.Combine.{total_length, cells_as}
use Rattle.valued.specs.Valued.{vector_in}
use Rattle.vec_funcs.proofs.joining.words_as.Given as goal

-- what is there and the cells of the rest are all cells
abbrev pub invariant-loop-v : goal.invariant-loop-v
invariant-loop-v g l =
    (cells_as g.W.Word.kind (map vector_in l.values) ≡ map g.W.Word.cell l.out.items
    ++ cells_as g.W.Word.kind (map vector_in (drop l.v-index l.values)))
    × All g.W.Word.fine l.out.items
    × (length l.out.items + total_length (map vector_in (drop l.v-index l.values))
    ≡ total_length (map vector_in l.values))
    × (l.steps + total_length (map vector_in (drop l.v-index l.values)) ≡ l.initial.steps
    + total_length (map vector_in l.values))
