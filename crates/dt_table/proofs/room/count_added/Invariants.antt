use Rattle.std.proofs.Common.{◌≡◌, ◌+◌, ◌≤◌, drop, length}
use Rattle.dt_table.specs.Change.{added_names, parts_seen}
use Rattle.dt_table.proofs.room.count_added.Given as goal

abbrev pub invariant-loop-part : goal.invariant-loop-part
invariant-loop-part l = record {
  count : l.count + length (added_names (parts_seen (drop l.part-index l.parts)))
      ≡ length (added_names (parts_seen l.parts));
  bound : l.count ≤ l.part-index;
}
