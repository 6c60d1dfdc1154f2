-- The script was read, or is not there, or is too long, or was not read.
use Rattle.std.proofs.Common.{Err, Some, ap}
use Rattle.dt_run.specs.Given.{meant}
use Rattle.dt_run.proofs.Runs.{asked_absent, asked_long, asked_read, asked_unread, asked_wanting, script_as}
use Rattle.dt_run.proofs.running.run_asked.Goals as goal

pub returns-in-Ok : goal.returns-in-Ok
returns-in-Ok g c =
    let read = c.in-Ok.ensures in
    asked_read (meant c.args.asked.now) c.in-Ok.bytes.items _ _ _ _ _ c.run_or_check.result read.held read.write_faults
    read.ok_quiet read.content read.within
    (script_as _ _ _ _ _ c.run_or_check.result c.deref.ensures.value c.run_or_check.ensures)

pub returns-in-Err-Absent : goal.returns-in-Err-Absent
returns-in-Err-Absent g c =
    let read = c.in-Err-Absent.ensures in
    let is = ap Err c.in-Err-Absent.field-0-is in
    asked_absent (meant c.args.asked.now) _ _ _ _ _ c.tell_absent.result read.held read.write_faults
    (read.absent_alone is).0 (read.absent is) c.tell_absent.ensures.put c.tell_absent.ensures.quiet

pub returns-in-Err-TooLong : goal.returns-in-Err-TooLong
returns-in-Err-TooLong g c =
    let read = c.in-Err-TooLong.ensures in
    let is = ap Err c.in-Err-TooLong.field-0-is in
    asked_long (meant c.args.asked.now) _ _ _ _ _ c.tell_too_long.result read.held read.write_faults
    (read.too_long_alone is).0 (read.too_long is) c.tell_too_long.ensures.put c.tell_too_long.ensures.quiet

pub returns-in-Err-Failed : goal.returns-in-Err-Failed
returns-in-Err-Failed g c =
    let read = c.in-Err-Failed.ensures in
    asked_unread (meant c.args.asked.now) _ _ _ _ read.held read.write_faults
    (read.failed (ap Err c.in-Err-Failed.field-0-is))

pub returns-in-Err-NoMemory : goal.returns-in-Err-NoMemory
returns-in-Err-NoMemory g c =
    let read = c.in-Err-NoMemory.ensures in
    asked_wanting (Some (meant c.args.asked.now)) _ _ _ _ read.held read.write_faults
    (read.no_memory_quiet (ap Err c.in-Err-NoMemory.field-0-is)).0
