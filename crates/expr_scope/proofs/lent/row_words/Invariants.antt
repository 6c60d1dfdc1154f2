use Rattle.std.proofs.Common.{◌≡◌, length, map, take}
use Rattle.expr_model.specs.Surroundings.{row_number}
use Rattle.na_vector.specs.Words.{int_cell}
use Rattle.expr_scope.proofs.lent.row_words.Given as goal

abbrev pub invariant-loop-p : goal.invariant-loop-p
invariant-loop-p l =
    (map int_cell l.words.items ≡ map row_number (take l.p-index l.positions)) × (length l.words.items ≡ l.p-index)
