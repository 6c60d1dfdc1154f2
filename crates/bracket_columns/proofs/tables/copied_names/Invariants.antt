use Rattle.std.proofs.Common.{◌≡◌, take}
use Rattle.bracket_columns.proofs.tables.copied_names.Given as goal

abbrev pub invariant-loop-name : goal.invariant-loop-name
invariant-loop-name l = l.own.items ≡ take l.name-index l.names
