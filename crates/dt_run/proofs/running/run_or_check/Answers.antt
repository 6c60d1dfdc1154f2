-- The script was only read.
use Rattle.dt_run.proofs.Runs.{script_checked}
use Rattle.dt_run.proofs.running.run_or_check.Goals as goal

pub returns-then-is_check : goal.returns-then-is_check
returns-then-is_check g c =
    rw c.if-is_check.true
    (script_checked c.args.bytes.now _ _ c.check_script.result c.check_script.ensures.end c.check_script.ensures.quiet)
