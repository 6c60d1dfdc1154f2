use Rattle.std.proofs.Common.{◌≡◌, length, map, take}
use Rattle.dt_base.specs.declared.cell.Cell.TheVariants as is
use Rattle.na_vector.specs.Words.{text_cell}
use Rattle.expr_scope.proofs.tables.copied_names.Given as goal

abbrev pub invariant-loop-name : goal.invariant-loop-name
invariant-loop-name l =
    (map text_cell l.texts.items ≡ map is.Text (take l.name-index l.names)) × (length l.texts.items ≡ l.name-index)
