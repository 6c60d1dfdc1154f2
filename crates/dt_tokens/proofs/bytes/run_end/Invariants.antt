use Rattle.std.proofs.Common.{length, ◌-◌, ◌≡◌, ◌≤◌, ◌+◌, drop}
use Rattle.run_model.specs.Bytes.{is_in, run}
use Rattle.dt_tokens.proofs.bytes.run_end.Given as goal

abbrev pub invariant-loop-n : goal.invariant-loop-n
invariant-loop-n l = record {
  value : 1 + run (is_in l.class) (drop 1 l.rest) ≡ l.n
      + run (is_in l.class) (drop l.n l.rest);
  within : l.n ≤ length l.rest;
}

abbrev pub decreases-loop-n : goal.decreases-loop-n
decreases-loop-n l = length l.rest - l.n
