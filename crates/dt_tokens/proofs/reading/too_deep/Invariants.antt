use Rattle.std.proofs.Common.{◌≡◌, ◌≤◌, drop}
use Rattle.run_model.specs.Tokens.{too_deep}
use Rattle.dt_tokens.proofs.reading.too_deep.Given as goal

abbrev pub invariant-loop-token : goal.invariant-loop-token
invariant-loop-token l = record {
  value : too_deep 0 l.tokens ≡ too_deep l.depth (drop l.token-index l.tokens);
  small : l.depth ≤ 64;
}
