use Rattle.std.proofs.Common.{◌≡◌, map, drop}
use Rattle.dt_base.specs.Warns.{both_warns}
use Rattle.session_model.specs.Expression.{all_warns, warns_in}
use Rattle.valued.specs.Valued.{valued_of}
use Rattle.expr_value.proofs.applied.warns_of_values.Given as goal

abbrev pub invariant-loop-v : goal.invariant-loop-v
invariant-loop-v l =
    all_warns (map warns_in (map valued_of l.values))
    ≡ both_warns l.all (all_warns (map warns_in (map valued_of (drop l.v-index l.values))))
