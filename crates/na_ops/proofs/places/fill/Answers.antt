use Rattle.std.proofs.Common.{arith, All, subst, sym}
use Rattle.std.proofs.lemmas.List.Elements.{All-push}
use Rattle.std.proofs.lemmas.Grind.{common_steps}
use Rattle.na_ops.proofs.Fill.{settled_at, settled_all, word_more}
use Rattle.na_ops.proofs.places.fill.Goals as goal

-- a place whose result is outside
pub returns-in_default-clause-value : goal.returns-in_default-clause-value
returns-in_default-clause-value g c =
    settled_at _ c.args.n c.loop-p.p _ c.loop-p.invariant.settled c.loop-p-test.true c.in_default.ensures.word

-- one more place
pub loop-p-preserved : goal.loop-p-preserved
loop-p-preserved g c = record {
  fine = subst (All g.W.Word.fine) (sym c.in_ok-add.ensures.ok)
      (All-push g.W.Word.fine c.loop-p.out.items c.in-Some.w c.loop-p.invariant.fine c.in-Some.ensures.fine);
  count = grind (arith, common_steps);
  settled = word_more g.W.Word.cell _ c.loop-p.p c.loop-p.out.items c.add.new.list.items c.in-Some.w
      c.loop-p.invariant.settled c.in-Some.ensures.word c.in_ok-add.ensures.ok;
}

-- all places
pub returns-clause-value : goal.returns-clause-value
returns-clause-value g c = settled_all _ c.args.n c.loop-p.p _ c.loop-p.invariant.settled (omega arith)
