use Rattle.std.proofs.Common.{arith}
use Rattle.expr_scope.specs.Scope.{env_of}
use Rattle.expr_value.proofs.Touched.{allowed}
use Rattle.expr_value.proofs.values.eval.Goals as goal

pub returns-in_err-operand-clause-touches : goal.returns-in_err-operand-clause-touches
returns-in_err-operand-clause-touches g c =
    allowed c.args.e.now (env_of g.V.Vars.bound c.args.s.now) c.args.steps.now c.eval_operand.new.steps _
    c.in_err-operand.ensures.touches (omega arith)
