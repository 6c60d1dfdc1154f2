use Rattle.std.proofs.Common.{◌≡◌, drop}
use Rattle.cell_text.specs.Digits.{natural_after}
use Rattle.cell_text.proofs.read.long_after.Given as goal

-- the digits that are left spell after n what all of them spell
abbrev pub invariant-loop-b : goal.invariant-loop-b
invariant-loop-b l = natural_after l.n (drop l.b-index l.digits) ≡ natural_after l.digit l.digits
