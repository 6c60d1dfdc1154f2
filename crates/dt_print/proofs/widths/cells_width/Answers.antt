use Rattle.std.proofs.Common.{◌∙◌, arith}
use Rattle.run_model.specs.Printed.{characters, cell_text}
use Rattle.dt_print.specs.Lines.{cell_width_at}
use Rattle.dt_print.proofs.Spans.{widest_more}
use Rattle.dt_print.proofs.widths.cells_width.Goals as goal

-- one cell more
pub loop-place-preserved : goal.loop-place-preserved
loop-place-preserved g c = record {
  widest =
      widest_more (cell_width_at c.args.column.now.vector) c.args.from c.loop-place.place _ _ _ c.loop-place.auto.place
      c.loop-place.invariant.widest
      (c.in_ok-cell_width.ensures.width ∙ (λ i. characters
      (cell_text (c.kind.ensures i) (c.cell-cell.ensures.value i))))
      c.max-widest.ensures;
  same = c.cell_width.ensures.same ∙ c.loop-place.invariant.same;
  touches = omega (arith, c.loop-place.auto.place);
}
