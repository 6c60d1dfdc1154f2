use Rattle.std.proofs.Common.{rules}
use Rattle.keys_index.proofs.Probing.{probe_chain}
use Rattle.keys_index.proofs.probes.probe_of.Goals as goal

pub returns-in-Chain-clause-probe : goal.returns-in-Chain-clause-probe
returns-in-Chain-clause-probe c =
    let is = probe_chain c.args.t.now c.args.i.now c.in-Chain.first c.in-Chain.rest
    c.names-names.ensures.table c.in-Chain.is in
    search (rules, is)
