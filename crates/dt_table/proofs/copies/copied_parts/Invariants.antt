use Rattle.std.proofs.Common.{◌≡◌, ◌≤◌, ◌+◌, drop, take}
use Rattle.dt_table.specs.Change.{cells_in, parts_seen}
use Rattle.dt_table.proofs.copies.copied_parts.Given as goal

abbrev pub invariant-loop-part : goal.invariant-loop-part
invariant-loop-part g l = record {
  parts : parts_seen l.out.items ≡ parts_seen (take l.part-index l.parts);
  at_most : l.steps + cells_in (parts_seen (drop l.part-index l.parts)) ≤ l.initial.steps + cells_in
      (parts_seen l.parts);
}
