use Rattle.std.proofs.Common.{◌≡◌, ◌≤◌, ◌+◌, ◌-◌, length}
use Rattle.run_model.specs.Places.{place_at}
use Rattle.dt_tokens.proofs.Cuts.{Reached}
use Rattle.dt_tokens.proofs.cut.cut.Given as goal

abbrev pub invariant-loop-i : goal.invariant-loop-i
invariant-loop-i l = record {
  reached : Reached l.s l.i l.before l.out.items;
  place : l.place ≡ place_at l.s l.i;
  line : l.place.line ≤ l.i + 1;
  byte : l.place.byte ≤ l.i + 1;
  depth : l.before.depth ≤ l.i;
  within : l.i ≤ length l.s;
}

abbrev pub decreases-loop-i : goal.decreases-loop-i
decreases-loop-i l = length l.s - l.i
