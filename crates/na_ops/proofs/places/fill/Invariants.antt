use Rattle.std.proofs.Common.{◌≡◌, map, All, length}
use Rattle.dt_model.specs.Operations.{at_place}
use Rattle.na_ops.proofs.Fill.{Settled}
use Rattle.na_ops.proofs.places.fill.Given as goal

abbrev pub invariant-loop-p : goal.invariant-loop-p
invariant-loop-p g l = record {
  fine : All g.W.Word.fine l.out.items;
  count : length l.out.items ≡ l.p;
  settled : Settled (at_place g.K.Kernel.table (map g.A.Word.cell l.a) (map g.B.Word.cell l.b)) l.p
      (map g.W.Word.cell l.out.items);
}
