use Rattle.std.proofs.Common.{◌≡◌, ◌+◌, ◌*◌}
use Rattle.std.specs.Prelude.{map}
use Rattle.std.specs.List.{range_with_len}
use Rattle.run_model.specs.Printed.{column_width}
use Rattle.dt_print.specs.Framed.{frame_heads, frame_rows}
use Rattle.dt_print.specs.Lines.{shown_count}
use Rattle.dt_print.proofs.widths.column_widths.Given as goal

-- the widths of the columns so far, nothing printed, and the touches of each
abbrev pub invariant-loop-c : goal.invariant-loop-c
invariant-loop-c g l = record {
  widths : l.widths.items ≡ map (column_width (frame_heads l.names l.frame.columns) (frame_rows l.frame))
      (range_with_len 0 l.c);
  same : l.page.text.items ≡ l.initial.page.text.items;
  touches : l.steps ≡ l.initial.steps + l.c * shown_count l.frame.rows;
}
