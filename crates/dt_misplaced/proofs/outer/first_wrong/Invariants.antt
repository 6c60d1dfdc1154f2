use Rattle.std.proofs.Common.{◌≡◌, ◌≤◌, length}
use Rattle.dt_misplaced.proofs.Firsts.{left}
use Rattle.dt_misplaced.proofs.outer.first_wrong.Given as goal

abbrev pub invariant-loop-at : goal.invariant-loop-at
invariant-loop-at l = (left l.tokens l.flags l.at l.next ≡ left l.tokens l.flags 0 0) × (l.next ≤ length l.flags)
