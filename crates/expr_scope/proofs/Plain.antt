-- The names of a table's columns, as texts.
use Rattle.std.proofs.Common.{◌≡◌, map, sym, ap, ◌∙◌}
use Rattle.std.proofs.lemmas.Simd.{map-map}
use Rattle.dt_base.specs.declared.cell.Cell.TheVariants as is
use Rattle.dt_model.specs.Table.{ColumnHead}
use Rattle.dt_table.proofs.Plain as reading
use Rattle.dt_table.specs.Plain.{plain}
use Rattle.dt_table.specs.Table.{TableSeen, IsTable}

pub plain_names : (t : TableSeen) → IsTable t
    → map (λ (c : ColumnHead). is.Text c.name) (plain t).columns ≡ map is.Text t.names
plain_names t h = sym (map-map is.Text (λ (c : ColumnHead). c.name) (plain t).columns)
    ∙ ap (map is.Text) (reading.plain_names t h)
