use Rattle.std.proofs.Common.{◌≡◌, take}
use Rattle.na_vector.proofs.gather.copied_texts.Given as goal

abbrev pub invariant-loop-text : goal.invariant-loop-text
invariant-loop-text l = l.out.items ≡ take l.text-index l.texts
