use Rattle.std.proofs.Common.{arith, All, subst, sym}
use Rattle.std.proofs.lemmas.List.Elements.{All-push}
use Rattle.std.proofs.lemmas.Grind.{common_steps}
use Rattle.na_common.proofs.Placed.{word_placed}
use Rattle.na_common.proofs.choice.picks.Goals as goal

pub loop-p-preserved : goal.loop-p-preserved
loop-p-preserved g c = record {
  cells = word_placed g.W.Word.cell _ c.loop-p.p c.loop-p.out.items c.push.new.list.items c.in_ok-w.w
      c.loop-p.invariant.cells c.in_ok-w.ensures.word c.in_ok-push.ensures;
  fine = subst (All g.W.Word.fine) (sym c.in_ok-push.ensures)
      (All-push g.W.Word.fine c.loop-p.out.items c.in_ok-w.w c.loop-p.invariant.fine c.in_ok-w.ensures.fine);
  count = grind (arith, common_steps);
}
