use Rattle.std.proofs.Common.{◌≡◌, ◌++◌, ◌+◌, ◌-◌, ◌*◌, length}
use Rattle.std.specs.List.{flat_map, range_with_len}
use Rattle.dt_print.specs.Lines.{frame_line}
use Rattle.dt_print.proofs.lines.push_rows.Given as goal

-- the lines so far are added, with the touches of each
abbrev pub invariant-loop-place : goal.invariant-loop-place
invariant-loop-place g l = record {
  text : l.page.text.items ≡ l.initial.page.text.items
      ++ flat_map (frame_line l.layout.label l.layout.columns.items l.frame.columns)
      (range_with_len l.from (l.place - l.from));
  touches : l.steps ≡ l.initial.steps + (l.place - l.from) * length l.frame.columns;
}
