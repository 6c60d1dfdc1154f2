use Rattle.std.proofs.Common.{◌≡◌, drop}
use Rattle.session_model.specs.Binding.{is_formal}
use Rattle.arg_bind.proofs.binding.stands_in.Given as goal

abbrev pub invariant-loop-p : goal.invariant-loop-p
invariant-loop-p l = is_formal l.w l.ps ≡ is_formal l.w (drop l.p-index l.ps)
