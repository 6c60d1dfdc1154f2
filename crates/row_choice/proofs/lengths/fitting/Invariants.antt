use Rattle.std.proofs.Common.{◌≡◌, map, drop}
use Rattle.row_model.specs.Lengths.{fitting}
use Rattle.valued.specs.Valued.{vector_in}
use Rattle.row_choice.proofs.lengths.fitting.Given as goal

-- the vectors so far go with the length
abbrev pub invariant-loop-v : goal.invariant-loop-v
invariant-loop-v l = fitting l.n (map vector_in l.values) ≡ fitting l.n (map vector_in (drop l.v-index l.values))
