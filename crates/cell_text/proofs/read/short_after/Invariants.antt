use Rattle.std.proofs.Common.{◌≡◌, ◌<◌, ◌+◌, ◌^◌, drop}
use Rattle.cell_text.specs.Digits.{natural_after}
use Rattle.cell_text.proofs.read.short_after.Given as goal

-- the digits that are left spell after n what all of them spell, and n has one digit more than are read
abbrev pub invariant-loop-b : goal.invariant-loop-b
invariant-loop-b l = record {
  spelled : natural_after l.n (drop l.b-index l.digits) ≡ natural_after l.digit l.digits;
  small : l.n < 10 ^ (l.b-index + 1);
}
