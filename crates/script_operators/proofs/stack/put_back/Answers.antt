use Rattle.std.proofs.Common.{ap, sym}
use Rattle.run_model.specs.TreeView.{tree_of}
use Rattle.script_frames.proofs.FrameViews.{frames_of-popped}
use Rattle.script_operators.proofs.stack.put_back.Goals as goal

pub returns-in-Ok : goal.returns-in-Ok
returns-in-Ok c = ap (λ fs. (fs, tree_of c.args.operand))
    (sym (frames_of-popped c.push.new.self.items c.args.frames.items c.args.frame c.in-Ok.ensures.items))
