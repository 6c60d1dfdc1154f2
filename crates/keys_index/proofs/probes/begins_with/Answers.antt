use Rattle.std.proofs.Common.{◌≡◌, ◌∙◌, false, refl, sym, ap}
use Rattle.keys_index.specs.Probes.{leads}
use Rattle.keys_index.proofs.Probing.{begins_named}
use Rattle.keys_index.proofs.probes.begins_with.Goals as goal

pub returns-else-leads : goal.returns-else-leads
returns-else-leads c =
    let t = c.args.t.now in
    let miss : leads c.args.col t.key ≡ false =
    ap (leads c.args.col) (sym c.key.ensures.key) ∙ (sym c.leads.ensures ∙ c.if-leads.false) in
    c.leads_some.ensures ∙ sym (begins_named t c.args.col c.key.ensures.table c.requires ∙ rw miss refl)
