use Rattle.std.proofs.Common.{◌≡◌, ◌++◌, replicate}
use Rattle.dt_print.proofs.page.push_blanks.Given as goal

-- a blank for each turn so far
abbrev pub invariant-loop : goal.invariant-loop
invariant-loop l = l.out.items ≡ l.initial.out.items ++ replicate l.counter 32
