use Rattle.std.proofs.Common.{◌≡◌, map, drop}
use Rattle.std.specs.List.{list_any}
use Rattle.vector_model.specs.Functions.{is_false}
use Rattle.na_vector.specs.Words.{lgl_cell}
use Rattle.vec_funcs.proofs.truths.has_false.Given as goal

-- the words so far are other ones
abbrev pub invariant-loop-word : goal.invariant-loop-word
invariant-loop-word l = list_any is_false (map lgl_cell l.words)
    ≡ list_any is_false (map lgl_cell (drop l.word-index l.words))
