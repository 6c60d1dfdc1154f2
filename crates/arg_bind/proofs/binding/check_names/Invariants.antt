use Rattle.std.proofs.Common.{◌≡◌, map, drop}
use Rattle.session_model.specs.Expression.{names_in}
use Rattle.session_model.specs.Meaning.{arg_meaning}
use Rattle.session_model.specs.Binding.{names_fine}
use Rattle.arg_bind.proofs.binding.check_names.Given as goal

abbrev pub invariant-loop-i : goal.invariant-loop-i
invariant-loop-i l = names_fine (names_in (map arg_meaning l.args)) l.ps 0 (names_in (map arg_meaning l.args))
    ≡ names_fine (names_in (map arg_meaning l.args)) l.ps l.i (names_in (map arg_meaning (drop l.i l.args)))
