use Rattle.std.proofs.Common.{◌≡◌, ◌++◌, drop, map}
use Rattle.cmd_order.specs.Columns.{forms_behind}
use Rattle.session_model.specs.Meaning.{arg_meaning}
use Rattle.written_forms.specs.Seen.{form_seen}
use Rattle.cmd_order.proofs.arguments.forms_behind.Given as goal

abbrev pub invariant-loop-arg : goal.invariant-loop-arg
invariant-loop-arg l =
    map form_seen l.forms.items ++ forms_behind l.left (map arg_meaning (drop l.arg-index l.args))
    ≡ forms_behind l.initial.left (map arg_meaning l.args)
