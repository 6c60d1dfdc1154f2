use Rattle.dt_session.proofs.Ends.{run_first, run_next, run_stopped}
use Rattle.dt_session.proofs.run.run_stmts.Goals as goal

pub loop-stmt-init : goal.loop-stmt-init
loop-stmt-init g c = run_first c.args.stmts.now _ _

pub loop-stmt-preserved : goal.loop-stmt-preserved
loop-stmt-preserved g c =
    run_next c.args.stmts.now _ _ _ _ _ _ _ _ c.stmt-item.result c.loop-stmt.invariant c.loop-stmt-test.true
    c.stmt-item.is c.in-Ok.ensures

pub returns-in-Err : goal.returns-in-Err
returns-in-Err g c =
    run_stopped c.same_heaps.ensures c.args.stmts.now _ _ _ _ _ _ _ _ c.stmt-item.result c.in-Err.cause
    c.loop-stmt.invariant
    c.loop-stmt-test.true c.stmt-item.is c.in-Err.ensures
