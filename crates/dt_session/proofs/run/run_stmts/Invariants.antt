use Rattle.file_value.specs.Reads.{files_seen}
use Rattle.dt_session.specs.Outside.{outside, sink_seen}
use Rattle.dt_session.proofs.Ends.{HasRun}
use Rattle.dt_session.proofs.run.run_stmts.Given as goal

abbrev pub invariant-loop-stmt : goal.invariant-loop-stmt
invariant-loop-stmt g l =
    HasRun l.stmts l.fn.session l.session
    (outside
    (files_seen g.F.Files.held g.F.Files.read_faults g.F.Files.misses g.F.Files.longs g.F.Files.write_faults
    l.fn.files)
    (sink_seen g.O.Sink.bytes g.O.Sink.faults l.fn.out)
    (sink_seen g.E.Sink.bytes g.E.Sink.faults l.fn.err))
    (outside
    (files_seen g.F.Files.held g.F.Files.read_faults g.F.Files.misses g.F.Files.longs g.F.Files.write_faults l.files)
    (sink_seen g.O.Sink.bytes g.O.Sink.faults l.out)
    (sink_seen g.E.Sink.bytes g.E.Sink.faults l.err))
    l.stmt-index l.done
