use Rattle.std.proofs.Common.{◌∙◌}
use Rattle.dt_print.specs.Lines.{label_width_at}
use Rattle.dt_print.proofs.Spans.{widest_more}
use Rattle.dt_print.proofs.widths.labels_width.Goals as goal

-- one label more
pub loop-place-preserved : goal.loop-place-preserved
loop-place-preserved c = record {
  widest =
      widest_more label_width_at c.args.from c.loop-place.place _ _ _ c.loop-place.auto.place
      c.loop-place.invariant.widest c.in_ok-label_width.ensures.width c.max-widest.ensures;
  same = c.label_width.ensures.same ∙ c.loop-place.invariant.same;
}
