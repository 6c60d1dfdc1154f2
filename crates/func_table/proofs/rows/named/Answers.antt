use Rattle.std.proofs.Common.{rules, sym, ◌∙◌}
use Rattle.func_table.proofs.NextRow.{row_found, row_passed}
use Rattle.func_table.proofs.rows.named.Goals as goal

pub returns-then-eq : goal.returns-then-eq
returns-then-eq g c =
    sym (c.loop-name.invariant ∙ row_found _ _ _ _ c.loop-name-test.true c.loop-name-item.is (search rules))

pub loop-name-preserved : goal.loop-name-preserved
loop-name-preserved g c =
    c.loop-name.invariant ∙ row_passed _ _ _ _ c.loop-name-test.true c.loop-name-item.is (search rules)
