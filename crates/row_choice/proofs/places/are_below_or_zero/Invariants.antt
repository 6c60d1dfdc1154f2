use Rattle.std.proofs.Common.{◌≡◌, map, drop}
use Rattle.std.specs.List.{list_all}
use Rattle.row_model.specs.Rows.{is_below_or_zero}
use Rattle.na_vector.specs.Words.{int_cell}
use Rattle.row_choice.proofs.places.are_below_or_zero.Given as goal

-- the words so far decide nothing
abbrev pub invariant-loop-word : goal.invariant-loop-word
invariant-loop-word l = list_all is_below_or_zero (map int_cell l.words)
    ≡ list_all is_below_or_zero (map int_cell (drop l.word-index l.words))
