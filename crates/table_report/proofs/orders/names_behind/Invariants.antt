use Rattle.std.proofs.Common.{◌≡◌, ◌++◌, drop, string_bytes}
use Rattle.dt_model.specs.Table.{names_at}
use Rattle.session_model.specs.Indices.{behind}
use Rattle.table_report.proofs.orders.names_behind.Given as goal

abbrev pub invariant-loop-c : goal.invariant-loop-c
invariant-loop-c l =
    string_bytes l.text ++ behind (names_at l.table.names (drop l.c-index l.cols))
    ≡ string_bytes l.initial.text ++ behind (names_at l.table.names l.cols)
