use Rattle.std.proofs.Common.{Some, ap, sym}
use Rattle.dt_grammar.specs.Machine.{Want}
use Rattle.script_frames.proofs.FrameViews.{frames_of-popped}
use Rattle.script_operators.proofs.stack.enter.Goals as goal

pub returns : goal.returns
returns c = ap (λ fs. Some (Want fs)) (sym
    (frames_of-popped c.push.new.self.items c.args.frames.items c.args.frame c.in_ok-push.ensures.items))
