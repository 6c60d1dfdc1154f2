use Rattle.std.proofs.Common.{◌≡◌, ◌-◌, Some, length, map, take}
use Rattle.std.specs.List.{range_with_len}
use Rattle.cmd_assign.proofs.Repeats.{IsBefore}
use Rattle.cmd_assign.proofs.rename_call.places_until.Given as goal
use Rattle.cmd_assign.specs.Renames.{places_of, steps_done}
use Rattle.session_model.proofs.InOrder.{onto}
use Rattle.session_model.specs.Expression.{each}
use Rattle.session_model.specs.Set.{old_name, old_names}

-- the old names so far are fine, and stand at these places
abbrev pub invariant-loop-k : goal.invariant-loop-k
invariant-loop-k l = record {
  so_far : old_names l.table.names l.old
      ≡ onto (steps_done l.places.items)
      (each (old_name l.table.names l.old) (range_with_len l.k (length l.old - l.k)));
  places : places_of l.table.names (take l.k l.old) ≡ map Some l.places.items;
  before : IsBefore l.k l.repeated;
}
