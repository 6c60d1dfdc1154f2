use Rattle.std.proofs.Common.{◌≡◌, get_or, ◌∙◌, sym, inl, inr, arith}
use Rattle.std.proofs.lemmas.Bool.{cases_lt}
use Rattle.std.proofs.lemmas.List.{get_or_default}
use Rattle.csv_edge.proofs.columns.has_late.Goals as goal

-- nor is the column at this place
pub loop-c-preserved : goal.loop-c-preserved
loop-c-preserved c = λ k d fields h.
    elim (cases_lt k c.loop-c.c) [
      | inl lt ↦ c.loop-c.invariant k d fields lt
      | inr ge ↦ (let same : k ≡ c.loop-c.c = omega (arith, h, ge) in
          let here : get_or c.args.columns.now c.loop-c.c d ≡ c.index-columns-c.result =
          get_or_default c.args.columns.now c.loop-c.c d c.index-columns-c.result c.loop-c-test.true
          ∙ sym c.index-columns-c.is in
          rw (same, here) (c.is_late.ensures c.if-is_late.false fields))
    ]
