use Rattle.std.proofs.Common.{◌≡◌, ◌≤◌, ◌^◌, min, drop}
use Rattle.run_model.specs.First.{value_after}
use Rattle.dt_tokens.proofs.number.value_of.Given as goal

abbrev pub invariant-loop-digit : goal.invariant-loop-digit
invariant-loop-digit l = record {
  value : min (2 ^ 63) (value_after 0 l.digits)
      ≡ min (2 ^ 63) (value_after l.value (drop l.digit-index l.digits));
  small : l.value ≤ 2 ^ 63;
}
