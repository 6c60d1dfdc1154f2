use Rattle.std.proofs.Common.{◌≡◌, IfOk, option_map, ap, subst, sym, ◌∙◌}
use Rattle.script_frames.specs.Ends.{made_of, state_with}
use Rattle.script_frames.specs.Frames.{frame_of, frames_of, state_of}
use Rattle.script_frames.proofs.EndViews.{none-frame}
use Rattle.dt_script.proofs.wanting.empty_frame.Goals as goal

pub returns-in-Some : goal.returns-in-Some
returns-in-Some c =
    let rest = frames_of c.args.frames.items in
    let step = none-frame c.args.end (frame_of c.args.frame) rest in
    let made = sym c.in_ok-made.ensures ∙ ap (option_map made_of) c.in-Some.is in
    subst (λ o. IfOk c.settle.result (λ next. option_map state_of next ≡ o))
    (sym (step ∙ ap (option_map (λ m. state_with m rest)) made)) c.settle.ensures
