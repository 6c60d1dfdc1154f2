use Rattle.std.proofs.Common.{◌≡◌, ◌++◌, take}
use Rattle.run_model.specs.Misplaced.{flags}
use Rattle.run_model.specs.TreeView.{stmts_of}
use Rattle.dt_misplaced.proofs.outer.walk_stmts.Given as goal

abbrev pub invariant-loop-stmt : goal.invariant-loop-stmt
invariant-loop-stmt l = l.flags.items ≡ l.initial.flags.items ++ flags (stmts_of (take l.stmt-index l.stmts))
