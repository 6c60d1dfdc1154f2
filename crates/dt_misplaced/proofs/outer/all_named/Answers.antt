use Rattle.std.proofs.Common.{sym}
use Rattle.dt_misplaced.proofs.Chains.{unnamed_at, named_more}
use Rattle.dt_misplaced.proofs.outer.all_named.Goals as goal

pub returns-then-is_none : goal.returns-then-is_none
returns-then-is_none c = sym (unnamed_at c.args.args.now c.loop-arg.arg-index c.arg-item.result c.loop-arg-test.true
    c.arg-item.is c.if-is_none.ensures)

pub loop-arg-preserved : goal.loop-arg-preserved
loop-arg-preserved c = named_more c.args.args.now c.loop-arg.arg-index c.arg-item.result c.loop-arg-test.true
    c.arg-item.is c.if-is_none.ensures c.loop-arg.invariant
