use Rattle.std.proofs.Common.{◌≡◌, ◌++◌, take}
use Rattle.std.specs.List.{flat_map}
use Rattle.dt_print.specs.Elements.{int_part}
use Rattle.dt_print.proofs.vector.push_ints.Given as goal

-- the elements so far are added
abbrev pub invariant-loop-word : goal.invariant-loop-word
invariant-loop-word l = l.out.items ≡ l.initial.out.items ++ flat_map int_part (take l.word-index l.words)
