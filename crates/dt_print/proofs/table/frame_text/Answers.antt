use Rattle.std.proofs.Common.{◌≡◌, ◌∙◌, ℕ, ◌<◌, List, length, ap, sym, subst, arith}
use Rattle.std.specs.Prelude.{IfOk}
use Rattle.dt_model.specs.Table.{rows_of}
use Rattle.run_model.specs.Printed.{printed_table}
use Rattle.dt_print.specs.Framed.{frame_heads, vectors_of}
use Rattle.dt_print.proofs.Tables.{printed-empty, printed-filled}
use Rattle.dt_print.proofs.table.frame_text.Goals as goal

-- columns and no rows
pub returns-then-rows-eq0-clause-text : goal.returns-then-rows-eq0-clause-text
returns-then-rows-eq0-clause-text g c =
    let some : 0 < length c.args.frame.now.columns = omega arith in
    let none : c.args.frame.now.rows ≡ 0 = omega arith in
    let P : List ℕ → Type 0 = λ t. IfOk c.empty_table.result (λ v. v.items ≡ t) in
    subst P
    (sym (ap (λ n. printed_table (frame_heads c.args.names.now c.args.frame.now.columns)
    (rows_of n (vectors_of c.args.frame.now.columns))) none
    ∙ printed-empty c.args.names.now c.args.frame.now.columns c.requires some))
    c.empty_table.ensures

-- columns and rows
pub returns-else-rows-eq0-clause-text : goal.returns-else-rows-eq0-clause-text
returns-else-rows-eq0-clause-text g c =
    let some : 0 < length c.args.frame.now.columns = omega arith in
    let rows : 0 < c.args.frame.now.rows = omega arith in
    let P : List ℕ → Type 0 = λ t. IfOk c.filled_table.result (λ v. v.items ≡ t) in
    subst P
    (sym (printed-filled c.args.names.now c.args.frame.now.columns c.args.frame.now.rows c.requires some rows))
    c.filled_table.ensures.text
