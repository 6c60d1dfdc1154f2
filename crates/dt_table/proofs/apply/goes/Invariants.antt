use Rattle.std.proofs.Common.{◌≡◌, drop}
use Rattle.dt_table.specs.Change.{goes, parts_seen}
use Rattle.dt_table.proofs.apply.goes.Given as goal

abbrev pub invariant-loop-part : goal.invariant-loop-part
invariant-loop-part l = goes (parts_seen (drop l.part-index l.parts)) l.c ≡ goes (parts_seen l.parts) l.c
