use Rattle.std.proofs.Common.{◌≡◌, vec_len}
use Rattle.dt_grammar.specs.Machine as model
use Rattle.run_model.specs.TreeView.{tree_of}
use Rattle.script_frames.specs.Frames.{frames_of}
use Rattle.script_operators.proofs.operators.close.Given as goal

abbrev pub invariant-loop-frame : goal.invariant-loop-frame
invariant-loop-frame l = model.close l.least (frames_of l.frames.items) (tree_of l.operand)
    ≡ model.close l.least (frames_of l.fn.frames.items) (tree_of l.fn.operand)

abbrev pub decreases-loop-frame : goal.decreases-loop-frame
decreases-loop-frame l = vec_len l.frames
