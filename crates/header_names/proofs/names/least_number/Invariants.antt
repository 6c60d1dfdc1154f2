use Rattle.std.proofs.Common.{◌≡◌, ◌≤◌, ◌<◌, ℕ, true}
use Rattle.run_model.specs.CsvNames.{is_among, numbered}
use Rattle.header_names.proofs.names.least_number.Given as goal

-- the numbers before this one do not make the name new
abbrev pub invariant-loop-k : goal.invariant-loop-k
invariant-loop-k l = (j : ℕ) → 1 ≤ j → j < l.k → is_among (numbered l.base j) l.names ≡ true
