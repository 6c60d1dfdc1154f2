use Rattle.dt_session.proofs.FaultLines.{told_once}
use Rattle.dt_session.proofs.laws.one_fault.Goals as goal

pub returns : goal.returns
returns c = told_once
