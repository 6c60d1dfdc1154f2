use Rattle.std.proofs.Common.{◌≡◌, map, drop}
use Rattle.std.specs.List.{list_all}
use Rattle.session_model.specs.AutoIndex.{is_apart}
use Rattle.session_model.specs.Meaning.{arg_meaning, args_mention, tail_meaning, tails_mention}
use Rattle.keys_index.proofs.probes.+mentions.Given as goal

abbrev pub invariant-args_name_nothing-loop-arg : goal.invariant-args_name_nothing-loop-arg
invariant-args_name_nothing-loop-arg l =
    list_all (is_apart l.names) (args_mention (map arg_meaning l.args))
    ≡ list_all (is_apart l.names) (args_mention (map arg_meaning (drop l.arg-index l.args)))

abbrev pub invariant-tails_name_nothing-loop-tail : goal.invariant-tails_name_nothing-loop-tail
invariant-tails_name_nothing-loop-tail l =
    list_all (is_apart l.names) (tails_mention (map tail_meaning l.tails))
    ≡ list_all (is_apart l.names) (tails_mention (map tail_meaning (drop l.tail-index l.tails)))
