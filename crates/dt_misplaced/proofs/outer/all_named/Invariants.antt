use Rattle.std.proofs.Common.{◌≡◌, take, true}
use Rattle.run_model.specs.Misplaced.{all_named}
use Rattle.run_model.specs.TreeView.{args_of}
use Rattle.dt_misplaced.proofs.outer.all_named.Given as goal

abbrev pub invariant-loop-arg : goal.invariant-loop-arg
invariant-loop-arg l = all_named (args_of (take l.arg-index l.args)) ≡ true
