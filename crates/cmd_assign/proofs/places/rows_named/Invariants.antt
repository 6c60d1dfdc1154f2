use Rattle.std.proofs.Common.{◌≡◌, ◌<◌, All, drop}
use Rattle.func_table.specs.declared.formal.Formal.TheVariants as formal
use Rattle.session_model.proofs.InOrder.{onto}
use Rattle.session_model.specs.Expression.{each}
use Rattle.session_model.specs.Set.{place_below, rows_named, wanted_place}
use Rattle.cmd_assign.proofs.places.rows_named.Given as goal

-- the rows so far, and those that the rest names
abbrev pub invariant-loop-k : goal.invariant-loop-k
invariant-loop-k g l = record {
  so_far : rows_named l.n l.column.vector
      ≡ onto l.rows.items
      (each (λ cell. wanted_place formal.I (place_below l.n cell)) (drop l.k l.column.vector.cells));
  within : All (λ row. row < l.n) l.rows.items;
}
