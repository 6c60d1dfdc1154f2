use Rattle.std.proofs.Common.{◌≡◌, IfOk, option_map, subst, ap, sym, ◌∙◌}
use Rattle.run_model.specs.TreeView.{tree_of, stmts_of}
use Rattle.dt_grammar.specs.Machine.{last_stmt}
use Rattle.script_frames.specs.Frames.{frame_of, frames_of}
use Rattle.script_frames.proofs.EndViews.{last_stmt-frame}
use Rattle.script_frames.proofs.FrameViews.{closed_of-popped}
use Rattle.dt_script.proofs.step.finish_stmt.Goals as goal

pub returns-in-Some : goal.returns-in-Some
returns-in-Some c =
    let rest = c.pop.new.self.items in
    let closed = closed_of-popped c.in_ok-frames.frames.items rest c.in-Some.frame c.in_ok-frames.operand _
    c.in-Some.ensures.items c.in_ok-frames.ensures in
    let last = sym (last_stmt-frame (frame_of c.in-Some.frame) (frames_of rest) (tree_of c.in_ok-frames.operand)) in
    subst (λ o. IfOk c.last_stmt.result (λ done. option_map stmts_of done ≡ o)) (last ∙ ap last_stmt closed)
    c.last_stmt.ensures
