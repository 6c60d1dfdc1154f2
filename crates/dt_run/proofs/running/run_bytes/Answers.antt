-- The script ran to its end, or ended early.
use Rattle.dt_run.proofs.Runs.{script_done, script_early}
use Rattle.dt_run.proofs.running.run_bytes.Goals as goal

pub returns-in-Ok : goal.returns-in-Ok
returns-in-Ok g c = script_done c.args.bytes.now _ _ _ _ c.new-session.ensures c.in-Ok.ensures

pub returns : goal.returns
returns g c =
    rw c.status_for.ensures
    (script_early c.args.bytes.now _ _ _ _ c.in-Err.fail c.new-session.ensures c.in-Err.ensures)
