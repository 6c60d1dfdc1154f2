use Rattle.std.proofs.Common.{sym, ◌∙◌}
use Rattle.script_frames.proofs.FrameViews.{demand-last_of}
use Rattle.script_operators.proofs.operators.demand.Goals as goal

pub returns-in-Some : goal.returns-in-Some
returns-in-Some c = c.frame_demand.ensures
    ∙ sym (demand-last_of c.args.frames.now c.in-Some.frame.now (sym c.in-Some.ensures.value))
