use Rattle.std.proofs.Common.{Some, ap, ◌∙◌}
use Rattle.run_model.specs.GrammarTrees.{Call}
use Rattle.dt_grammar.proofs.Trees.{tree_of-Call}
use Rattle.script_frames.specs.Ends.{Have}
use Rattle.script_brackets.proofs.endings.last_arg.Goals as goal

pub returns : goal.returns
returns c = ap (λ t. Some (Have t)) (tree_of-Call c.args.name c.in_ok-args.args
    ∙ ap (Call c.args.name) c.in_ok-args.ensures)
