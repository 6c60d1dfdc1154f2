use Rattle.std.proofs.Common.{◌≡◌, map, drop, length}
use Rattle.expr_scope.specs.Scope.{env_of}
use Rattle.session_model.proofs.InOrder.{onto}
use Rattle.session_model.specs.Expression.{checked_value, each_argument}
use Rattle.session_model.specs.Meaning.{arg_meaning}
use Rattle.valued.specs.Valued.{valued_of}
use Rattle.bracket_columns.proofs.lists.values_in_turn.Given as goal

abbrev pub invariant-loop-a : goal.invariant-loop-a
invariant-loop-a g l =
    (each_argument (λ m. checked_value m (env_of g.V.Vars.bound l.s)) (map arg_meaning l.args)
    ≡ onto (map valued_of l.values.items)
    (each_argument (λ m. checked_value m (env_of g.V.Vars.bound l.s)) (map arg_meaning (drop l.a-index l.args))))
    × (length l.values.items ≡ l.a-index)
