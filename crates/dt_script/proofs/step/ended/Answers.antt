use Rattle.std.proofs.Common.{◌≡◌, ◌∷◌, IfOk, option_map, subst}
use Rattle.run_model.specs.TreeView.{args_of}
use Rattle.dt_grammar.specs.Machine.{InCall}
use Rattle.dt_grammar.proofs.Trees.{tree_of-Formula}
use Rattle.script_frames.specs.Ends.{end_step}
use Rattle.script_frames.specs.Frames.{frames_of, state_of}
use Rattle.dt_script.proofs.step.ended.Goals as goal

pub returns : goal.returns
returns c =
    let f = c.args.formula in
    subst (λ t. IfOk c.in_frame.result (λ next. option_map state_of next
    ≡ end_step c.args.end (InCall f.call (args_of f.args) f.target ∷ frames_of c.args.frames.items, t)))
    (tree_of-Formula f.left f.right) c.in_frame.ensures
