use Rattle.std.proofs.Common.{◌≡◌, drop}
use Rattle.std.specs.List.{list_any}
use Rattle.dt_table.specs.Change.{is_named, parts_seen}
use Rattle.dt_table.proofs.orders.is_touched.Given as goal

abbrev pub invariant-loop-c : goal.invariant-loop-c
invariant-loop-c l = list_any (is_named (parts_seen l.parts)) (drop l.c-index l.cols)
    ≡ list_any (is_named (parts_seen l.parts)) l.cols
