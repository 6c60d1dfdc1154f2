use Rattle.std.proofs.Common.{◌≤◌, take, All}
use Rattle.dt_table.specs.Change.{HasRoom, parts_seen}
use Rattle.dt_table.specs.Parts.{IsRoomier}
use Rattle.dt_table.proofs.room.reserve_parts.Given as goal

-- the first parts have room
abbrev pub invariant-loop-part : goal.invariant-loop-part
invariant-loop-part l = record {
  room : All (HasRoom l.frame.columns) (parts_seen (take l.part-index l.parts));
  more : IsRoomier l.fn.frame l.frame;
  columns : l.added ≤ l.frame.spare;
}
