use Rattle.std.proofs.Common.{◌≡◌, ◌≤◌, ◌+◌}
use Rattle.run_model.specs.Places.{place_at}
use Rattle.dt_tokens.proofs.place.moved_over.Given as goal

abbrev pub invariant-loop-i : goal.invariant-loop-i
invariant-loop-i l = record {
  place : l.place ≡ place_at l.s l.i;
  line : l.place.line ≤ l.i + 1;
  byte : l.place.byte ≤ l.i + 1;
}
