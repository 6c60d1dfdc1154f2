use Rattle.std.proofs.Common.{refl}
use Rattle.script_laws.proofs.StatementLines.{script_leads}
use Rattle.script_laws.proofs.statements_lead_lines.Goals as goal

pub returns : goal.returns
returns c = λ s us before after x d e. let l = c.breaks_lead_lines.ensures s us d in
    script_leads e us refl l.0 l.1 before after x refl
