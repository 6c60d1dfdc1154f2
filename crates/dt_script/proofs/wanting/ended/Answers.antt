use Rattle.std.proofs.Common.{◌≡◌, IfOk, option_map, subst}
use Rattle.script_frames.specs.Ends.{none_step}
use Rattle.script_frames.specs.Frames.{state_of}
use Rattle.script_frames.proofs.FrameViews.{frames_of-popped}
use Rattle.dt_script.proofs.wanting.ended.Goals as goal

pub returns-in-Some : goal.returns-in-Some
returns-in-Some c =
    subst (λ fs. IfOk c.empty_frame.result (λ next. option_map state_of next ≡ none_step c.args.end fs))
    (frames_of-popped c.args.frames.items c.pop.new.self.items c.in-Some.frame c.in-Some.ensures.items)
    c.empty_frame.ensures
