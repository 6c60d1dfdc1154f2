use Rattle.std.proofs.Common.{◌≡◌}
use Rattle.std.specs.List.{list_any}
use Rattle.indexmap.specs.IndexMap.{values}
use Rattle.dt_model.specs.State.{is_table}
use Rattle.table_heap.specs.State.{plain_bound}
use Rattle.table_heap.proofs.names.has_name.Given as goal

-- no value so far is this table, so the test of all is the test of those that are left
abbrev pub invariant-loop-bound : goal.invariant-loop-bound
invariant-loop-bound l =
    (goal.iterator-loop-bound).can_next l.bound-iterator
    × (goal.iterator-loop-bound).is_finite l.bound-iterator
    × (list_any (λ v. is_table l.number (plain_bound v)) (values l.names)
    ≡ list_any (λ v. is_table l.number (plain_bound v)) l.bound-iterator)
