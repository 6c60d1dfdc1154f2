use Rattle.std.proofs.Common.{sym, ap, ◌∙◌}
use Rattle.run_model.specs.TreeView.{tree_of, brackets_of}
use Rattle.script_frames.proofs.StepViews.{head_of_other}
use Rattle.script_brackets.proofs.brackets.head_of.Goals as goal

pub returns-in_default : goal.returns-in_default
returns-in_default c = ap (λ bs. record { tree = tree_of c.args.operand; brackets = brackets_of bs }) c.new.ensures
    ∙ sym (head_of_other c.args.operand c.in_default.not-Query)
