use Rattle.std.proofs.Common.{◌≡◌, ◌++◌, take}
use Rattle.std.specs.List.{flat_map}
use Rattle.dt_print.specs.Elements.{text_part}
use Rattle.dt_print.proofs.vector.push_texts.Given as goal

-- the elements so far are added
abbrev pub invariant-loop-text : goal.invariant-loop-text
invariant-loop-text l = l.out.items ≡ l.initial.out.items ++ flat_map text_part (take l.text-index l.texts)
