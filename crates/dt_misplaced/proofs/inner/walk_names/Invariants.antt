use Rattle.std.proofs.Common.{◌≡◌, ◌++◌, take}
use Rattle.run_model.specs.Misplaced.{names_flags}
use Rattle.dt_misplaced.proofs.inner.walk_names.Given as goal

abbrev pub invariant-loop-name : goal.invariant-loop-name
invariant-loop-name l = l.flags.items ≡ l.initial.flags.items ++ names_flags (take l.name-index l.names)
