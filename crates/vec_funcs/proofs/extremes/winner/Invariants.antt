use Rattle.std.proofs.Common.{map, length}
use Rattle.dt_model.specs.Vector.{IsWithin}
use Rattle.vector_model.specs.Functions.{extreme_type}
use Rattle.vec_funcs.specs.Sides.{beats}
use Rattle.vec_funcs.proofs.Winner.{IsBest}
use Rattle.vec_funcs.proofs.extremes.winner.Given as goal

-- the best of the words so far
abbrev pub invariant-loop-p : goal.invariant-loop-p
invariant-loop-p g l =
    IsWithin (length l.words) l.best
    × IsBest (beats l.side (extreme_type g.A.Word.kind)) (map g.A.Word.cell l.words) l.p l.best
