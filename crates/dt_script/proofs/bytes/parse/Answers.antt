-- A fault of the bytes, the tokens or the nesting is the first.
use Rattle.std.proofs.Common.{sym, subst}
use Rattle.run_model.specs.Reading.{in_tokens}
use Rattle.dt_script.specs.Answers.{FailsAs}
use Rattle.dt_script.proofs.Answered.{fails_as}
use Rattle.dt_script.proofs.bytes.parse.Goals as goal

pub returns-in-Err-Fault-clause-fault : goal.returns-in-Err-Fault-clause-fault
returns-in-Err-Fault-clause-fault c =
    subst (FailsAs c.args.bytes.now) (sym (rw c.in-Err-Fault.field-0-is at c.refused.ensures))
    (fails_as c.args.bytes.now c.in-Err-Fault.fault
    (in_tokens c.in-Err-Fault.fault (rw c.in-Err-Fault.field-0-is at c.in-Err-Fault.ensures.fault)))
