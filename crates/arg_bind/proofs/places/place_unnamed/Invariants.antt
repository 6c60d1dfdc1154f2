use Rattle.std.proofs.Common.{◌≡◌, map, drop}
use Rattle.session_model.specs.Expression.{names_in}
use Rattle.session_model.specs.Meaning.{arg_meaning}
use Rattle.session_model.specs.Binding.{unnamed}
use Rattle.arg_bind.proofs.places.place_unnamed.Given as goal

abbrev pub invariant-loop-i : goal.invariant-loop-i
invariant-loop-i l = unnamed l.k 0 (names_in (map arg_meaning l.args))
    ≡ unnamed l.left l.i (names_in (map arg_meaning (drop l.i l.args)))
