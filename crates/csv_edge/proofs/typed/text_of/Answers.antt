use Rattle.std.proofs.Common.{◌≡◌, ℕ, List, Bor}
use Rattle.csv_edge.proofs.TextFacts.{text_cases}
use Rattle.csv_edge.proofs.typed.text_of.Goals as goal

pub returns : goal.returns
returns c = text_cases c.args.field.now (λ (s : Bor (List ℕ)). s.now ≡ c.args.field.now) _ c.from_utf8.result
    c.ok.result c.ok.ensures.value c.from_utf8.ensures.cases
