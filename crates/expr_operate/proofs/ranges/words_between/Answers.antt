use Rattle.std.proofs.Common.{arith, map}
use Rattle.std.proofs.lemmas.Grind.{common_steps}
use Rattle.expr_model.specs.Operators.{towards}
use Rattle.expr_operate.proofs.Between.{one_more}
use Rattle.expr_operate.proofs.ranges.words_between.Goals as goal
use Rattle.na_vector.specs.Words.{int_cell}

pub loop-k-preserved : goal.loop-k-preserved
loop-k-preserved c = (
  one_more (towards c.args.ends.now.from c.args.ends.now.to) c.loop-k.k (map int_cell c.loop-k.words.items)
      (map int_cell c.put_word.new.words.items) c.loop-k.invariant.0 c.in_ok-put_word.ensures.cells,
  grind (arith, common_steps),
)
