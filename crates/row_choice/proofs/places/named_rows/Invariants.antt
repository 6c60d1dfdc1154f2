use Rattle.std.proofs.Common.{◌≡◌, ◌++◌, map, drop}
use Rattle.row_model.specs.Rows.{named_rows}
use Rattle.na_vector.specs.Words.{int_cell}
use Rattle.row_choice.proofs.places.named_rows.Given as goal

-- the rows so far, and those that the rest names
abbrev pub invariant-loop-word : goal.invariant-loop-word
invariant-loop-word l = named_rows l.rows (map int_cell l.words) ≡ l.out.items
    ++ named_rows l.rows (map int_cell (drop l.word-index l.words))
