use Rattle.std.proofs.Common.{◌≡◌, length, map}
use Rattle.std.specs.List.{range_with_len}
use Rattle.expr_model.specs.Operators.{towards}
use Rattle.na_vector.specs.Words.{int_cell}
use Rattle.expr_operate.proofs.ranges.words_between.Given as goal

abbrev pub invariant-loop-k : goal.invariant-loop-k
invariant-loop-k l =
    (map int_cell l.words.items ≡ map (towards l.ends.from l.ends.to) (range_with_len 0 l.k))
    × (length l.words.items ≡ l.k)
