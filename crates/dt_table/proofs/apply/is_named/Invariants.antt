use Rattle.std.proofs.Common.{◌≡◌, drop}
use Rattle.dt_table.specs.Change.{is_named, parts_seen}
use Rattle.dt_table.proofs.apply.is_named.Given as goal

abbrev pub invariant-loop-part : goal.invariant-loop-part
invariant-loop-part l = is_named (parts_seen (drop l.part-index l.parts)) l.c ≡ is_named (parts_seen l.parts) l.c
