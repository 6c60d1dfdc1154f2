use Rattle.std.proofs.Common.{◌≡◌, map, drop}
use Rattle.run_model.specs.TreeView.{tail_of}
use Rattle.script_frames.specs.Steps.{names_behind}
use Rattle.script_brackets.proofs.formulas.tail_names.Given as goal

abbrev pub invariant-loop-tail : goal.invariant-loop-tail
invariant-loop-tail l = names_behind l.fn.names (map tail_of l.rest)
    ≡ names_behind l.names (map tail_of (drop l.tail-index l.rest))
