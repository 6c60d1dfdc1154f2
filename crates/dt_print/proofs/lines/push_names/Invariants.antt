use Rattle.std.proofs.Common.{◌≡◌, ◌++◌}
use Rattle.dt_print.specs.Lines.{names_part}
use Rattle.dt_print.proofs.lines.push_names.Given as goal

-- the names so far are added
abbrev pub invariant-loop-c : goal.invariant-loop-c
invariant-loop-c l = l.page.text.items ≡ l.initial.page.text.items ++ names_part l.widths l.names l.c
