use Rattle.std.proofs.Common.{arith, sym, ◌∙◌, ap, option_map, pos}
use Rattle.cell_text.proofs.Digits.{natural_after_drop_great}
use Rattle.cell_text.proofs.read.long_after.Goals as goal

-- a number with no room for one more digit
pub returns-then-n-clause-value : goal.returns-then-n-clause-value
returns-then-n-clause-value c =
    let past = natural_after_drop_great c.loop-b.n c.loop-b.b-index c.args.digits.now c.loop-b-test.true
    (omega arith) in
    ap (option_map pos) (sym past ∙ c.loop-b.invariant)
