use Rattle.dt_session.proofs.Counts.{counted_refusal}
use Rattle.dt_session.proofs.Scripts.{script_read, script_refused}
use Rattle.dt_session.proofs.run.run_script.Goals as goal

pub returns-in-Ok : goal.returns-in-Ok
returns-in-Ok g c =
    script_read c.args.bytes.now c.in-Ok.script _ _ _ _ _ c.run_stmts.result c.in-Ok.ensures.script.reading
    c.as_slice.ensures c.run_stmts.ensures

pub returns-in-Err : goal.returns-in-Err
returns-in-Err g c =
    script_refused c.args.bytes.now _ _ c.in-Err.fail _ c.tell_refusal.result c.in-Err.ensures.fault
    c.tell_refusal.ensures.end
    (counted_refusal _ _ c.tell_refusal.result.cause c.tell_refusal.ensures.own c.tell_refusal.ensures.read
    c.tell_refusal.ensures.write c.tell_refusal.ensures.quiet c.tell_refusal.ensures.faults)
