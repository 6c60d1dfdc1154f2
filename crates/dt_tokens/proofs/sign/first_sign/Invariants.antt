use Rattle.std.proofs.Common.{◌≡◌, drop}
use Rattle.run_model.specs.Signs.{first_sign}
use Rattle.dt_tokens.proofs.sign.first_sign.Given as goal

abbrev pub invariant-loop-sign : goal.invariant-loop-sign
invariant-loop-sign l = first_sign l.signs l.rest ≡ first_sign (drop l.sign-index l.signs) l.rest
