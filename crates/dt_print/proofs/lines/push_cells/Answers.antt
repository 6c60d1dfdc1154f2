use Rattle.std.proofs.Common.{◌∙◌, ℕ, sym, ap, arith}
use Rattle.std.specs.Prelude.{slice_index}
use Rattle.std.proofs.lemmas.List.{append-nil}
use Rattle.run_model.specs.Printed.{cell_text}
use Rattle.dt_print.specs.Lines.{part, text_at, frame_cell, cells_part}
use Rattle.dt_print.proofs.Spans.{added_next}
use Rattle.dt_print.proofs.lines.push_cells.Goals as goal

-- no cell yet
pub loop-c-init : goal.loop-c-init
unfolding cells_part
loop-c-init g c = record { text = sym (append-nil c.args.page.now.text.items); touches = omega arith }

-- one cell more
pub loop-c-preserved : goal.loop-c-preserved
unfolding cells_part frame_cell
loop-c-preserved g c =
    let width : ℕ = slice_index c.args.widths.now c.loop-c.c in
    record {
      text =
          added_next (λ p. part (slice_index c.args.widths.now p) (frame_cell c.args.frame.now.columns c.args.place p))
          c.loop-c.c _ _ _ _
          c.loop-c.invariant.text c.in_ok-push_cell.ensures
          ((λ i. part width (cell_text (c.kind.ensures i) (c.cell-cell.ensures.value i)))
          ∙ ap (λ o. part width (text_at o c.args.place)) (sym c.col-column.ensures.place));
      touches = omega arith;
    }
