use Rattle.std.proofs.Common.{◌≡◌, drop}
use Rattle.std.specs.List.{list_any}
use Rattle.keys_index.specs.Probes.{leads}
use Rattle.keys_index.proofs.probes.leads_some.Given as goal

abbrev pub invariant-loop-k : goal.invariant-loop-k
invariant-loop-k l =
    list_any (λ x. leads l.col x.cols) l.t.indices ≡ list_any (λ x. leads l.col x.cols) (drop l.k l.t.indices)
