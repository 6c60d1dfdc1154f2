use Rattle.std.proofs.Common.{◌≡◌, IfOk, option_map, subst}
use Rattle.script_frames.specs.Ends.{end_step}
use Rattle.script_frames.specs.Frames.{state_of}
use Rattle.script_frames.proofs.FrameViews.{closed_of-popped}
use Rattle.dt_script.proofs.having.ended.Goals as goal

pub returns-in-Some : goal.returns-in-Some
returns-in-Some c =
    subst (λ p. IfOk c.in_frame.result (λ next. option_map state_of next ≡ end_step c.args.end p))
    (closed_of-popped c.in_ok-frames.frames.items c.pop.new.self.items c.in-Some.frame c.in_ok-frames.operand _
    c.in-Some.ensures.items c.in_ok-frames.ensures)
    c.in_frame.ensures
