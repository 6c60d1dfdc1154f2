use Rattle.std.proofs.Common.{◌≡◌, ◌≤◌, ◌+◌}
use Rattle.run_model.specs.Places.{place_at}
use Rattle.dt_script.proofs.place.end_of.Given as goal

abbrev pub invariant-loop-b : goal.invariant-loop-b
invariant-loop-b l = record {
  place : l.place ≡ place_at l.text l.b-index;
  line : l.place.line ≤ l.b-index + 1;
  byte : l.place.byte ≤ l.b-index + 1;
}
