use Rattle.std.proofs.Common.{◌≡◌, map, drop}
use Rattle.func_table.specs.Rows.{looked}
use Rattle.func_table.specs.Seen.{row_seen}
use Rattle.func_table.proofs.rows.named.Given as goal

abbrev pub invariant-loop-name : goal.invariant-loop-name
invariant-loop-name g l = looked l.word (map row_seen l.rows) ≡ looked l.word (map row_seen (drop l.name-index l.rows))
