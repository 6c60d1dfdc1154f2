use Rattle.std.proofs.Common.{◌≡◌, ◌≤◌, max, map, drop}
use Rattle.row_model.specs.Lengths.{longest}
use Rattle.valued.specs.Valued.{vector_in}
use Rattle.row_choice.proofs.lengths.longest.Given as goal

-- the greatest so far, and that of the rest
abbrev pub invariant-loop-v : goal.invariant-loop-v
invariant-loop-v l = (longest (map vector_in l.values) ≡ max l.n (longest (map vector_in (drop l.v-index l.values))))
    × (l.n ≤ 16777216)
