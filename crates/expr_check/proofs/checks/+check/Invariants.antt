use Rattle.std.proofs.Common.{◌≡◌, ◌≤◌, map, drop}
use Rattle.expr_scope.specs.Scope.{env_of}
use Rattle.session_model.proofs.InOrder.{onto}
use Rattle.session_model.specs.Expression.{names_in, check_tails, each_argument, slots}
use Rattle.session_model.specs.Meaning.{arg_meaning, tail_meaning}
use Rattle.session_model.specs.Binding.{places}
use Rattle.expr_check.proofs.checks.+check.Given as goal

abbrev pub invariant-check_tails-loop-t : goal.invariant-check_tails-loop-t
invariant-check_tails-loop-t g l =
    check_tails (env_of g.V.Vars.bound l.s) l.fn.first (map tail_meaning l.rest)
    ≡ check_tails (env_of g.V.Vars.bound l.s) l.kind (map tail_meaning (drop l.t-index l.rest))

abbrev pub invariant-kinds_of_each-loop-a : goal.invariant-kinds_of_each-loop-a
invariant-kinds_of_each-loop-a g l =
    each_argument (λ m. m.check (env_of g.V.Vars.bound l.s)) (map arg_meaning l.args)
    ≡ onto l.done.items
    (each_argument (λ m. m.check (env_of g.V.Vars.bound l.s)) (map arg_meaning (drop l.a-index l.args)))

abbrev pub invariant-check_formals-loop-p : goal.invariant-check_formals-loop-p
invariant-check_formals-loop-p g l =
    (l.before ≤ l.p-index)
    × (slots (λ m. m.check (env_of g.V.Vars.bound l.s)) (map arg_meaning l.args)
    (places (names_in (map arg_meaning l.args)) 0 l.ps)
    ≡ onto l.done.items
    (slots (λ m. m.check (env_of g.V.Vars.bound l.s)) (map arg_meaning l.args)
    (places (names_in (map arg_meaning l.args)) l.before (drop l.p-index l.ps))))
