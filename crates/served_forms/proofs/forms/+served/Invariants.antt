use Rattle.std.proofs.Common.{◌≡◌, map, drop}
use Rattle.std.specs.List.{list_all}
use Rattle.session_model.specs.Meaning.{arg_meaning, tail_meaning, bracket_meaning}
use Rattle.session_model.specs.Served.{bracket_served, is_served_argument}
use Rattle.served_forms.proofs.forms.+served.Given as goal

abbrev pub invariant-are_served_values-loop-arg : goal.invariant-are_served_values-loop-arg
invariant-are_served_values-loop-arg l = list_all (λ a. a.means.served l.inside) (map arg_meaning l.args) ≡ list_all (λ a. a.means.served l.inside) (map arg_meaning (drop l.arg-index l.args))

abbrev pub invariant-are_served_tails-loop-tail : goal.invariant-are_served_tails-loop-tail
invariant-are_served_tails-loop-tail l = list_all (λ t. t.means.served l.inside) (map tail_meaning l.tails) ≡ list_all (λ t. t.means.served l.inside) (map tail_meaning (drop l.tail-index l.tails))

abbrev pub invariant-are_served_brackets-loop-bracket : goal.invariant-are_served_brackets-loop-bracket
invariant-are_served_brackets-loop-bracket l = list_all bracket_served (map bracket_meaning l.brackets) ≡ list_all bracket_served (map bracket_meaning (drop l.bracket-index l.brackets))

abbrev pub invariant-are_served_arguments-loop-arg : goal.invariant-are_served_arguments-loop-arg
invariant-are_served_arguments-loop-arg l = list_all is_served_argument (map arg_meaning l.args) ≡ list_all is_served_argument (map arg_meaning (drop l.arg-index l.args))
