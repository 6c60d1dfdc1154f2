use Rattle.std.proofs.Common.{◌≡◌, ◌<◌, All, codes, drop, length, map, true}
use Rattle.bracket_rows.specs.Ordered.{arg_form, column_seen}
use Rattle.session_model.proofs.InOrder.{onto}
use Rattle.session_model.specs.Expression.{each}
use Rattle.session_model.specs.OrderColumns.{column_asked}
use Rattle.bracket_rows.proofs.ordered.order_columns.Given as goal

abbrev pub invariant-loop-arg : goal.invariant-loop-arg
invariant-loop-arg l = record {
  done : each (column_asked (codes "order") true l.x.names) (map arg_form l.args)
      ≡ onto (map (column_seen l.x.names) l.by.items)
      (each (column_asked (codes "order") true l.x.names) (map arg_form (drop l.arg-index l.args)));
  cols : All (λ s. s.col < length l.x.names) l.by.items;
  na_last : All (λ s. s.na_last ≡ true) l.by.items;
}
