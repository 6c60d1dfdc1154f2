use Rattle.std.proofs.Common.{◌≡◌, ◌*◌, ◌^◌, map, drop, pos, neg_ℤ, ◌+ℤ◌, ◌≤ℤ◌}
use Rattle.vector_model.specs.Functions.{total}
use Rattle.vec_funcs.proofs.sums.total.Given as goal

-- what was added and the total of the rest are the total, and no word adds more than 2^63
abbrev pub invariant-loop-x : goal.invariant-loop-x
invariant-loop-x g l =
    (total (map g.A.Word.cell l.words) ≡ l.t +ℤ total (map g.A.Word.cell (drop l.x-index l.words)))
    × (neg_ℤ (pos (2 ^ 63 * l.x-index)) ≤ℤ l.t)
    × (l.t ≤ℤ pos (2 ^ 63 * l.x-index))
