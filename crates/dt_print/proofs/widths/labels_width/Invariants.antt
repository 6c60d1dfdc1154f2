use Rattle.std.proofs.Common.{◌≡◌, ◌-◌}
use Rattle.std.specs.Prelude.{map}
use Rattle.std.specs.List.{range_with_len}
use Rattle.run_model.specs.Printed.{greatest}
use Rattle.dt_print.specs.Lines.{label_width_at}
use Rattle.dt_print.proofs.widths.labels_width.Given as goal

-- the widest of the labels so far, and nothing printed
abbrev pub invariant-loop-place : goal.invariant-loop-place
invariant-loop-place l = record {
  widest : l.widest ≡ greatest (map label_width_at (range_with_len l.from (l.place - l.from)));
  same : l.page.text.items ≡ l.initial.page.text.items;
}
