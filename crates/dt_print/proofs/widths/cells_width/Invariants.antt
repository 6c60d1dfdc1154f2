use Rattle.std.proofs.Common.{◌≡◌, ◌-◌, ◌+◌}
use Rattle.std.specs.Prelude.{map}
use Rattle.std.specs.List.{range_with_len}
use Rattle.run_model.specs.Printed.{greatest}
use Rattle.dt_print.specs.Lines.{cell_width_at}
use Rattle.dt_print.proofs.widths.cells_width.Given as goal

-- the widest of the cells so far, nothing printed, and a touch for each
abbrev pub invariant-loop-place : goal.invariant-loop-place
invariant-loop-place g l = record {
  widest : l.widest ≡ greatest (map (cell_width_at l.column.vector) (range_with_len l.from (l.place - l.from)));
  same : l.page.text.items ≡ l.initial.page.text.items;
  touches : l.steps ≡ l.initial.steps + (l.place - l.from);
}
