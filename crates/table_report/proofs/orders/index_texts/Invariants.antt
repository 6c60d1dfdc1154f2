use Rattle.std.proofs.Common.{◌≡◌, map, take}
use Rattle.dt_base.specs.declared.cell.Cell.TheVariants as is
use Rattle.dt_model.specs.Table.{names_at}
use Rattle.session_model.specs.Indices.{joined}
use Rattle.table_report.specs.Told.{texts_in}
use Rattle.table_report.proofs.orders.index_texts.Given as goal

abbrev pub invariant-loop-k : goal.invariant-loop-k
invariant-loop-k l =
    texts_in l.texts.items
    ≡ map is.Text (map joined (map (λ x. names_at l.table.names x.cols) (take l.k l.table.indices)))
