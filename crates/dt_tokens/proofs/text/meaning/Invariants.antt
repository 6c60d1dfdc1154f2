use Rattle.std.proofs.Common.{◌≡◌, ◌+◌, drop, false, cond}
use Rattle.run_model.specs.First.{meaning}
use Rattle.dt_tokens.proofs.Texts.{joined}
use Rattle.dt_tokens.proofs.text.meaning.Given as goal

abbrev pub invariant-loop-i : goal.invariant-loop-i
invariant-loop-i l = record {
  value : meaning false l.bytes
      ≡ joined l.out.items l.begun (meaning l.escaped (drop l.i l.bytes));
  begun : l.begun + cond l.escaped 1 0 ≡ l.i;
}
