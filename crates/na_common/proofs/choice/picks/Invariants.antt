use Rattle.std.proofs.Common.{◌≡◌, map, All, length}
use Rattle.dt_model.specs.Operations.{at_places}
use Rattle.na_vector.specs.Words.{lgl_cell}
use Rattle.na_common.specs.Brought.{choice_at}
use Rattle.na_common.proofs.choice.picks.Given as goal

abbrev pub invariant-loop-p : goal.invariant-loop-p
invariant-loop-p g l = record {
  cells : map g.W.Word.cell l.out.items ≡ at_places l.p
      (choice_at g.W.Word.kind (map lgl_cell l.test) (map g.A.Word.cell l.a) (map g.B.Word.cell l.b));
  fine : All g.W.Word.fine l.out.items;
  count : length l.out.items ≡ l.p;
}
