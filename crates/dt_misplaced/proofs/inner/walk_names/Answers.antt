use Rattle.std.proofs.Common.{false}
use Rattle.run_model.specs.Misplaced.{name_flags, names_flags}
use Rattle.dt_misplaced.proofs.Parts.{one_more}
use Rattle.dt_misplaced.proofs.Walk.{names-push}
use Rattle.dt_misplaced.proofs.inner.walk_names.Goals as goal

pub loop-name-preserved : goal.loop-name-preserved
loop-name-preserved c = one_more names_flags (λ y. name_flags y false) names-push c.args.names.now
    c.loop-name.name-index c.name-item.result _ _ _ c.loop-name-test.true c.name-item.is c.loop-name.invariant
    c.in_ok-walk_name.ensures
