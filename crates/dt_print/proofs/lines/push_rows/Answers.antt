use Rattle.std.proofs.Common.{refl, length}
use Rattle.dt_print.specs.Lines.{frame_line}
use Rattle.dt_print.proofs.Spans.{added_more, touches_from}
use Rattle.dt_print.proofs.lines.push_rows.Goals as goal

-- one row more
pub loop-place-preserved : goal.loop-place-preserved
loop-place-preserved g c = record {
  text =
      added_more (frame_line c.args.layout.now.label c.args.layout.now.columns.items c.args.frame.now.columns)
      c.args.from c.loop-place.place _ _ _ _ c.loop-place.auto.place
      c.loop-place.invariant.text c.in_ok-push_row.ensures.text refl;
  touches =
      touches_from _ _ _ c.args.from c.loop-place.place (length c.args.frame.now.columns) c.loop-place.auto.place
      c.loop-place.invariant.touches c.in_ok-push_row.ensures.touches;
}
