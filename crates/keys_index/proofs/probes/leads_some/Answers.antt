use Rattle.std.proofs.Common.{arith}
use Rattle.keys_index.proofs.Probing.{leads_here, leads_on}
use Rattle.keys_index.proofs.probes.leads_some.Goals as goal

pub returns-then-leads_index : goal.returns-then-leads_index
returns-then-leads_index c =
    leads_here c.args.col c.args.t.now.indices c.loop-k.k c.leads_index.result (omega arith) c.loop-k.invariant
    c.leads_index.ensures c.if-leads_index.true

pub loop-k-preserved : goal.loop-k-preserved
loop-k-preserved c =
    leads_on c.args.col c.args.t.now.indices c.loop-k.k c.leads_index.result (omega arith) c.loop-k.invariant
    c.leads_index.ensures c.if-leads_index.false
