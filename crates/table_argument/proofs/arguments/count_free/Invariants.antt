use Rattle.std.proofs.Common.{◌≡◌, ◌≤◌, ◌+◌, map, drop}
use Rattle.session_model.specs.Binding.{free_count}
use Rattle.session_model.specs.Expression.{names_in}
use Rattle.session_model.specs.Meaning.{arg_meaning}
use Rattle.table_argument.proofs.arguments.count_free.Given as goal

abbrev pub invariant-loop-formal : goal.invariant-loop-formal
invariant-loop-formal l = record {
  few : l.count ≤ l.formal-index;
  so_far : free_count (names_in (map arg_meaning l.args)) l.formals
      ≡ l.count + free_count (names_in (map arg_meaning l.args)) (drop l.formal-index l.formals);
}
