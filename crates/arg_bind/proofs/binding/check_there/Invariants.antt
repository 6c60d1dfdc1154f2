use Rattle.std.proofs.Common.{◌≡◌, ◌≤◌, map, drop}
use Rattle.session_model.specs.Expression.{names_in}
use Rattle.session_model.specs.Meaning.{arg_meaning}
use Rattle.session_model.specs.Binding.{all_there, places}
use Rattle.arg_bind.proofs.binding.check_there.Given as goal

abbrev pub invariant-loop-p : goal.invariant-loop-p
invariant-loop-p l = (l.before ≤ l.p-index)
    × (all_there l.f (places (names_in (map arg_meaning l.args)) 0 l.ps)
    ≡ all_there l.f (places (names_in (map arg_meaning l.args)) l.before (drop l.p-index l.ps)))
