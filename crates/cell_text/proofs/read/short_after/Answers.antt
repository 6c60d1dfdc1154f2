use Rattle.std.proofs.Common.{◌<◌, arith, rules}
use Rattle.std.proofs.lemmas.Grind.{common_steps}
use Rattle.cell_text.proofs.Digits.{few_digits}
use Rattle.cell_text.proofs.read.short_after.Goals as goal

-- eighteen digits spell a number within the range
pub overflow_mul-n : goal.overflow_mul-n
overflow_mul-n c =
    let small : c.loop-b.n < 1000000000000000000 =
    few_digits c.loop-b.n c.loop-b.b-index c.loop-b.invariant.small (omega arith) in
    omega arith

pub overflow_add-n : goal.overflow_add-n
overflow_add-n c =
    let small : c.loop-b.n < 1000000000000000000 =
    few_digits c.loop-b.n c.loop-b.b-index c.loop-b.invariant.small (omega arith) in
    omega (arith, c.in_ok-n.ensures)

pub overflow_cast-result : goal.overflow_cast-result
overflow_cast-result c =
    let small : c.loop-b.n < 1000000000000000000 =
    few_digits c.loop-b.n c.loop-b.b-index c.loop-b.invariant.small (omega arith) in
    search (rules, arith)

pub returns-clause-value : goal.returns-clause-value
returns-clause-value c =
    let small : c.loop-b.n < 1000000000000000000 =
    few_digits c.loop-b.n c.loop-b.b-index c.loop-b.invariant.small (omega arith) in
    grind (arith, common_steps)

pub returns-clause-sign : goal.returns-clause-sign
returns-clause-sign c =
    let small : c.loop-b.n < 1000000000000000000 =
    few_digits c.loop-b.n c.loop-b.b-index c.loop-b.invariant.small (omega arith) in
    grind (arith, common_steps)
