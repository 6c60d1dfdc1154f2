use Rattle.std.proofs.Common.{◌≡◌, take}
use Rattle.dt_table.proofs.copies.copied_indices.Given as goal

abbrev pub invariant-loop-index : goal.invariant-loop-index
invariant-loop-index l = l.out.items ≡ take l.index-index l.indices
