use Rattle.std.proofs.Common.{◌≡◌, map, take}
use Rattle.session_model.specs.Assigned.{call_names}
use Rattle.session_model.specs.Meaning.{arg_meaning}
use Rattle.assign_sides.proofs.side.call_names.Given as goal

abbrev pub invariant-loop-arg : goal.invariant-loop-arg
invariant-loop-arg l = l.names.items ≡ call_names (map arg_meaning (take l.arg-index l.args))
