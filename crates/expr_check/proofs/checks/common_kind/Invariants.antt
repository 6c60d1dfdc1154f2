use Rattle.std.proofs.Common.{◌≡◌, drop}
use Rattle.dt_model.specs.Combine.{common_from, common_of}
use Rattle.expr_check.proofs.checks.common_kind.Given as goal

abbrev pub invariant-loop-kind : goal.invariant-loop-kind
invariant-loop-kind l = common_of l.kinds ≡ common_from l.all (drop l.kind-index l.kinds)
