use Rattle.std.proofs.Common.{◌≡◌, ◌≤◌, ◌+◌, map, drop}
use Rattle.session_model.specs.Expression.{names_in}
use Rattle.session_model.specs.Meaning.{arg_meaning}
use Rattle.session_model.specs.Binding.{free_count}
use Rattle.arg_bind.proofs.binding.count_free.Given as goal

abbrev pub invariant-loop-p : goal.invariant-loop-p
invariant-loop-p l = (l.n ≤ l.p-index)
    × (free_count (names_in (map arg_meaning l.args)) l.ps
    ≡ l.n + free_count (names_in (map arg_meaning l.args)) (drop l.p-index l.ps))
