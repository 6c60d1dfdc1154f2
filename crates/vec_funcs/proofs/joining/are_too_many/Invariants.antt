use Rattle.std.proofs.Common.{◌≡◌, ◌+◌, map, drop}
use Rattle.dt_model.specs.Combine.{total_length}
use Rattle.valued.specs.Valued.{vector_in}
use Rattle.vec_funcs.proofs.joining.are_too_many.Given as goal

-- what is left of the limit and what is left of the cells differ by as much as at first
abbrev pub invariant-loop-v : goal.invariant-loop-v
invariant-loop-v l =
    l.left + total_length (map vector_in l.values) ≡ 16777216 + total_length (map vector_in (drop l.v-index l.values))
