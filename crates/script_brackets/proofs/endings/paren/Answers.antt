use Rattle.std.proofs.Common.{Some, ap, ◌∙◌}
use Rattle.run_model.specs.GrammarTrees.{Paren}
use Rattle.run_model.specs.TreeView.{tree_of}
use Rattle.dt_grammar.proofs.Trees.{tree_of-Paren}
use Rattle.script_frames.specs.Ends.{Have}
use Rattle.script_brackets.proofs.endings.paren.Goals as goal

pub returns : goal.returns
returns c = ap (λ t. Some (Have t)) (tree_of-Paren c.in_ok-inner.inner
    ∙ ap (λ t. Paren (tree_of t)) c.in_ok-inner.ensures)
