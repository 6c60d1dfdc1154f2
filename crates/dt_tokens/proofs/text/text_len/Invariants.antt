use Rattle.std.proofs.Common.{◌≡◌, ◌+◌, drop, false, option_map}
use Rattle.run_model.specs.First.{text_len}
use Rattle.dt_tokens.proofs.text.text_len.Given as goal

abbrev pub invariant-loop-i : goal.invariant-loop-i
invariant-loop-i l = text_len l.quote false l.rest
    ≡ option_map (λ n. l.i + n) (text_len l.quote l.escaped (drop l.i l.rest))
