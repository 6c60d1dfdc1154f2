use Rattle.std.proofs.Common.{◌≡◌, ◌≤◌, true, map, drop, length, All}
use Rattle.expr_scope.specs.Scope.{env_of}
use Rattle.expr_scope.specs.Slots.{operand_of, slot_of}
use Rattle.expr_value.specs.Touches.{all_signs, are_literals, IsOneCell}
use Rattle.session_model.proofs.InOrder.{onto}
use Rattle.session_model.specs.Expression.{names_in, value_tails, each_argument, slots}
use Rattle.session_model.specs.Meaning.{arg_meaning, tail_meaning}
use Rattle.session_model.specs.Binding.{places}
use Rattle.valued.specs.Valued.{valued_of}
use Rattle.expr_value.proofs.Touched.{SoFar}
use Rattle.expr_value.proofs.values.+eval.Given as goal

abbrev pub invariant-eval_tails-loop-t : goal.invariant-eval_tails-loop-t
invariant-eval_tails-loop-t g l =
    value_tails (env_of g.V.Vars.bound l.s) (operand_of l.fn.first) (map tail_meaning l.rest)
    ≡ value_tails (env_of g.V.Vars.bound l.s) (operand_of l.value) (map tail_meaning (drop l.t-index l.rest))

abbrev pub invariant-values_of_each-loop-a : goal.invariant-values_of_each-loop-a
invariant-values_of_each-loop-a g l =
    (each_argument (λ m. m.value (env_of g.V.Vars.bound l.s)) (map arg_meaning l.args)
    ≡ onto (map valued_of l.done.items)
    (each_argument (λ m. m.value (env_of g.V.Vars.bound l.s)) (map arg_meaning (drop l.a-index l.args))))
    × (length l.done.items ≡ l.a-index)
    × (are_literals l.args ≡ true → are_literals (drop l.a-index l.args) ≡ true)
    × (are_literals l.args ≡ true → All IsOneCell l.done.items)
    × (are_literals l.args ≡ true
    → SoFar (all_signs l.args) (all_signs (drop l.a-index l.args)) l.initial.steps l.steps)

abbrev pub invariant-eval_formals-loop-p : goal.invariant-eval_formals-loop-p
invariant-eval_formals-loop-p g l =
    (l.before ≤ l.p-index)
    × (slots (λ m. m.value (env_of g.V.Vars.bound l.s)) (map arg_meaning l.args)
    (places (names_in (map arg_meaning l.args)) 0 l.ps)
    ≡ onto (map slot_of l.done.items)
    (slots (λ m. m.value (env_of g.V.Vars.bound l.s)) (map arg_meaning l.args)
    (places (names_in (map arg_meaning l.args)) l.before (drop l.p-index l.ps))))
