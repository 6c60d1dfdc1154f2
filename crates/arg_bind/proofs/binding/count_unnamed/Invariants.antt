use Rattle.std.proofs.Common.{◌≡◌, ◌≤◌, ◌+◌, map, drop}
use Rattle.session_model.specs.Expression.{names_in}
use Rattle.session_model.specs.Meaning.{arg_meaning}
use Rattle.session_model.specs.Binding.{unnamed_count}
use Rattle.arg_bind.proofs.binding.count_unnamed.Given as goal

abbrev pub invariant-loop-a : goal.invariant-loop-a
invariant-loop-a l = (l.n ≤ l.a-index)
    × (unnamed_count (names_in (map arg_meaning l.args))
    ≡ l.n + unnamed_count (names_in (map arg_meaning (drop l.a-index l.args))))
