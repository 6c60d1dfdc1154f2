use Rattle.std.proofs.Common.{◌≡◌, ◌++◌, take}
use Rattle.run_model.specs.Misplaced.{inner_tails, inner_args, inner_brackets}
use Rattle.run_model.specs.TreeView.{tails_of, args_of, brackets_of}
use Rattle.dt_misplaced.proofs.inner.+walk.Given as goal

abbrev pub invariant-walk_args-loop-arg : goal.invariant-walk_args-loop-arg
invariant-walk_args-loop-arg l = l.flags.items ≡ l.initial.flags.items ++ inner_args (args_of (take l.arg-index l.args))

abbrev pub invariant-walk_brackets-loop-bracket : goal.invariant-walk_brackets-loop-bracket
invariant-walk_brackets-loop-bracket l = l.flags.items ≡ l.initial.flags.items
    ++ inner_brackets (brackets_of (take l.bracket-index l.brackets))

abbrev pub invariant-walk_tails-loop-tail : goal.invariant-walk_tails-loop-tail
invariant-walk_tails-loop-tail l = l.flags.items ≡ l.initial.flags.items
    ++ inner_tails (tails_of (take l.tail-index l.rest))
