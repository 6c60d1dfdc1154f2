use Rattle.std.proofs.Common.{arith}
use Rattle.dt_table.proofs.OnePart.{IsPut-replace, IsPut-write}
use Rattle.dt_table.proofs.parts.put_part.Goals as goal

-- another column stands in the column's place
pub returns-in-Replace-clause-put : goal.returns-in-Replace-clause-put
returns-in-Replace-clause-put g c =
    rw c.in-Replace.is (IsPut-replace _ _ c.in-Replace.col c.in-Replace.with c.replace_col.ensures.columns
    c.replace_col.ensures.rows (omega (arith, c.replace_col.ensures.spare)))

-- the cells are written, one after another
pub returns-in-Write-clause-put : goal.returns-in-Write-clause-put
returns-in-Write-clause-put g c =
    let fits = (rw c.in-Write.is at c.requires.fits) in
    rw c.in-Write.is (IsPut-write c.args.frame.now c.put_cells.new.frame c.in-Write.col c.in-Write.at.items
    c.in-Write.cells.items fits.0 c.put_cells.ensures.kind
    (rw (← c.deref.ensures.value, ← c.deref_mut.ensures.value) c.put_cells.ensures.cells)
    c.put_cells.ensures.others c.put_cells.ensures.rows (omega (arith, c.put_cells.ensures.spare)))
