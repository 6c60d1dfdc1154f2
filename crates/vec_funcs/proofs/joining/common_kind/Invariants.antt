use Rattle.std.proofs.Common.{◌≡◌, map, drop}
use Rattle.dt_model.specs.Combine.{common_from, common_of, kinds_of}
use Rattle.valued.specs.Valued.{vector_in}
use Rattle.vec_funcs.proofs.joining.common_kind.Given as goal

abbrev pub invariant-loop-v : goal.invariant-loop-v
invariant-loop-v l = common_of (kinds_of (map vector_in l.values))
    ≡ common_from l.kind (kinds_of (map vector_in (drop l.v-index l.values)))
