use Rattle.std.proofs.Common.{◌≡◌, map, take}
use Rattle.dt_base.specs.declared.cell.Cell.TheVariants as is
use Rattle.dt_model.specs.Table.{names_at}
use Rattle.table_report.specs.Told.{texts_in}
use Rattle.table_report.proofs.orders.name_texts.Given as goal

abbrev pub invariant-loop-c : goal.invariant-loop-c
invariant-loop-c l = texts_in l.texts.items ≡ map is.Text (names_at l.table.names (take l.c-index l.cols))
