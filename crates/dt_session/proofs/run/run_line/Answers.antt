use Rattle.dt_session.proofs.Ends.{exec_as, line_done, line_stopped, line_unread, line_unsent, line_wanting}
use Rattle.dt_session.proofs.run.run_line.Goals as goal

pub returns-in-Ok : goal.returns-in-Ok
returns-in-Ok g c = line_done _ _ _ _ _ c.in-Ok.ensures

pub returns-in-Err-Stop : goal.returns-in-Err-Stop
returns-in-Err-Stop g c =
    line_stopped _ _ _ _ _ c.in-Err-Stop.fault _ c.stopped.result
    (exec_as _ _ _ _ _ _ _ c.in-Err-Stop.field-0-is c.in-Err-Stop.ensures) c.stopped.ensures.put
    c.stopped.ensures.failed c.stopped.ensures.quiet c.stopped.ensures.faults

pub returns-in-Err-ReadFault : goal.returns-in-Err-ReadFault
returns-in-Err-ReadFault g c =
    line_unread _ _ _ _ _ (exec_as _ _ _ _ _ _ _ c.in-Err-ReadFault.field-0-is c.in-Err-ReadFault.ensures)

pub returns-in-Err-WriteFault : goal.returns-in-Err-WriteFault
returns-in-Err-WriteFault g c =
    line_unsent _ _ _ _ _ (exec_as _ _ _ _ _ _ _ c.in-Err-WriteFault.field-0-is c.in-Err-WriteFault.ensures)

pub returns-in-Err-NoMemory : goal.returns-in-Err-NoMemory
returns-in-Err-NoMemory g c =
    line_wanting _ _ _ _ _ c.in-Err-NoMemory.error
    (exec_as _ _ _ _ _ _ _ c.in-Err-NoMemory.field-0-is c.in-Err-NoMemory.ensures)
