use Rattle.std.proofs.Common.{arith}
use Rattle.std.proofs.lemmas.Grind.{common_steps}
use Rattle.std.proofs.lemmas.Int.{ints}
use Rattle.vec_funcs.proofs.sums.total.Goals as goal

pub loop-x-preserved : goal.loop-x-preserved
loop-x-preserved g c = (grind (arith, ints, common_steps), omega (arith, ints), omega (arith, ints))
