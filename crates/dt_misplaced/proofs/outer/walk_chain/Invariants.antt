use Rattle.std.proofs.Common.{◌≡◌, ◌++◌, take}
use Rattle.run_model.specs.Misplaced.{outer_brackets, stage}
use Rattle.run_model.specs.TreeView.{brackets_of}
use Rattle.dt_misplaced.specs.Stages.{stage_of}
use Rattle.dt_misplaced.proofs.outer.walk_chain.Given as goal

abbrev pub invariant-loop-bracket : goal.invariant-loop-bracket
invariant-loop-bracket l =
    (l.flags.items ≡ l.initial.flags.items ++ outer_brackets (brackets_of (take l.bracket-index l.brackets)))
    × (stage_of l.stage ≡ stage (brackets_of (take l.bracket-index l.brackets)))
