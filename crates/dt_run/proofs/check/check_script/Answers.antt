use Rattle.dt_run.proofs.Refusals.{refusal_checked}
use Rattle.dt_run.proofs.check.check_script.Goals as goal

pub returns-in-Err-clause-end : goal.returns-in-Err-clause-end
returns-in-Err-clause-end g c =
    rw c.status_for.ensures (refusal_checked c.args.bytes.now c.in-Err.fail _ _ _ c.tell_refusal-ended.result
    c.in-Err.ensures.fault c.tell_refusal-ended.ensures.write c.tell_refusal-ended.ensures.end)
