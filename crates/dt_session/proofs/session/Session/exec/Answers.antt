use Rattle.std.proofs.Common.{refl}
use Rattle.file_value.specs.Reads.{files_seen}
use Rattle.dt_session.proofs.Execs.{exec_done, exec_unsent}
use Rattle.dt_session.proofs.session.Session.exec.Goals as goal

pub returns-in-Err : goal.returns-in-Err
returns-in-Err g c =
    let p = c.in_ok-prepared.ensures in
    rw (← c.self.view_is, c.from.ensures)
    (exec_unsent
    (files_seen g.F.Files.held g.F.Files.read_faults g.F.Files.misses g.F.Files.longs g.F.Files.write_faults)
    c.args.s.now _ _ c.args.files.now c.prepare.new.files _ _ _ c.in_ok-prepared.prepared c.in-Err.fail p.same refl
    p.told p.lines p.files c.in-Err.ensures)

pub returns-in-Ok : goal.returns-in-Ok
returns-in-Ok g c =
    let p = c.in_ok-prepared.ensures in
    rw (← c.self.view_is)
    (exec_done
    (files_seen g.F.Files.held g.F.Files.read_faults g.F.Files.misses g.F.Files.longs g.F.Files.write_faults)
    c.args.s.now _ _ c.prepare.new.heap c.args.files.now c.prepare.new.files _ _ _ c.in_ok-prepared.prepared p.state
    p.change c.finish.ensures p.told p.lines p.files c.in-Ok.ensures)
