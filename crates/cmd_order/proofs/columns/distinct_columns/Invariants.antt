use Rattle.std.proofs.Common.{◌≡◌, ◌<◌, All, false, drop, length, map}
use Rattle.cmd_order.proofs.Choosing.{onto}
use Rattle.cmd_order.specs.Columns.{column_seen, places_of}
use Rattle.dt_model.specs.Table.{names_at}
use Rattle.session_model.specs.OrderColumns.{columns_after, distinct_columns}
use Rattle.written_forms.specs.Seen.{form_seen}
use Rattle.cmd_order.proofs.columns.distinct_columns.Given as goal

abbrev pub invariant-loop-written : goal.invariant-loop-written
invariant-loop-written l = record {
  walk : onto (map (column_seen l.table.names) l.chosen) (columns_after l.word l.falls l.table.names
      (names_at l.table.names (places_of l.chosen)) (map form_seen (drop l.written-index l.forms)))
      ≡ distinct_columns l.word l.falls l.table.names (map form_seen l.forms);
  within : All (λ s. s.col < length l.table.names) l.chosen;
  na_first : All (λ s. s.na_last ≡ false) l.chosen;
  count : length l.chosen ≡ l.written-index;
}
