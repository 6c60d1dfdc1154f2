use Rattle.std.proofs.Common.{◌≡◌, map, drop}
use Rattle.std.specs.List.{list_any}
use Rattle.row_model.specs.Rows.{is_below_zero}
use Rattle.na_vector.specs.Words.{int_cell}
use Rattle.row_choice.proofs.places.has_below_zero.Given as goal

-- the words so far decide nothing
abbrev pub invariant-loop-word : goal.invariant-loop-word
invariant-loop-word l = list_any is_below_zero (map int_cell l.words)
    ≡ list_any is_below_zero (map int_cell (drop l.word-index l.words))
