use Rattle.std.proofs.Common.{◌≡◌, suc, IfOk, option_map, ap, subst, ◌∙◌, add-one}
use Rattle.run_model.specs.TreeView.{tree_of}
use Rattle.dt_grammar.specs.Machine as model
use Rattle.script_frames.specs.Frames.{frames_of, state_of}
use Rattle.dt_script.proofs.having.operator.Goals as goal

pub returns : goal.returns
returns c =
    subst (λ p. IfOk c.infix_op.result (λ next. option_map state_of next ≡ model.infix_op c.args.op p))
    (c.in_ok-frames.ensures ∙ ap (λ k. model.close k (frames_of c.args.frames.items) (tree_of c.args.operand))
    (add-one c.level.result ∙ ap suc c.level.ensures))
    c.infix_op.ensures
