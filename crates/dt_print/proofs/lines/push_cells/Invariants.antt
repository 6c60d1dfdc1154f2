use Rattle.std.proofs.Common.{◌≡◌, ◌++◌, ◌+◌}
use Rattle.dt_print.specs.Lines.{cells_part}
use Rattle.dt_print.proofs.lines.push_cells.Given as goal

-- the cells so far are added, with a touch for each
abbrev pub invariant-loop-c : goal.invariant-loop-c
invariant-loop-c g l = record {
  text : l.page.text.items ≡ l.initial.page.text.items ++ cells_part l.widths l.frame.columns l.place l.c;
  touches : l.steps ≡ l.initial.steps + l.c;
}
