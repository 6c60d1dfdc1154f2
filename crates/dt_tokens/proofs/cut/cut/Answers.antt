use Rattle.std.proofs.Common.{sym, subst, ◌∙◌, arith, length, drop, length-drop}
use Rattle.run_model.specs.First.{IsWithin}
use Rattle.dt_tokens.proofs.Cuts.{reached_more}
use Rattle.dt_tokens.proofs.cut.cut.Goals as goal

pub loop-i-preserved : goal.loop-i-preserved
loop-i-preserved c =
    let l = c.loop-i in
    let m = c.moved_over-place.ensures in
    let room = length-drop l.i c.args.s.now in
    let w = subst (IsWithin (length (drop l.i c.args.s.now))) c.in-Found.is c.in_ok-offset.ensures.within in
    record {
      reached = reached_more c.args.s.now l.i l.before _ l.out.items _ c.in-Found.piece c.in-Found.len l.place
          l.invariant.reached l.invariant.place (sym c.in_ok-offset.ensures.value ∙ c.in-Found.is)
          c.after-next.ensures.value c.in_ok-add-in-Found.ensures;
      place = m.place;
      line = m.line;
      byte = m.byte;
      depth = omega (arith, w.0, c.after-next.ensures.bound);
      within = omega (arith, w.1, room);
    }
