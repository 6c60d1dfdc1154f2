use Rattle.session_model.specs.Expression.{warns_in}
use Rattle.valued.specs.Valued.{valued_of}
use Rattle.expr_scope.proofs.NextOne.{warns_at}
use Rattle.expr_value.proofs.applied.warns_of_values.Goals as goal

pub loop-v-preserved : goal.loop-v-preserved
loop-v-preserved c =
    warns_at valued_of warns_in _ c.loop-v.all c.both-all.result c.args.values.now c.loop-v.v-index c.v-item.result
    c.loop-v.invariant c.loop-v-test.true c.v-item.is c.both-all.ensures
