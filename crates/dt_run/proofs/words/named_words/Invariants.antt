use Rattle.std.proofs.Common.{◌≡◌, map, string_bytes, take}
use Rattle.dt_run.specs.Given.{texts}
use Rattle.dt_run.specs.Words.{with_name}
use Rattle.dt_run.proofs.words.named_words.Given as goal

abbrev pub invariant-loop-word : goal.invariant-loop-word
invariant-loop-word l = texts l.all.items ≡ with_name (map string_bytes (take l.word-index l.words))
