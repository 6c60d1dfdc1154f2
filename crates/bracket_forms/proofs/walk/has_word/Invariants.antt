use Rattle.std.proofs.Common.{◌≡◌, map, drop}
use Rattle.session_model.specs.Asked.{has_word, words_in}
use Rattle.session_model.specs.Meaning.{arg_meaning}
use Rattle.bracket_forms.proofs.walk.has_word.Given as goal

abbrev pub invariant-loop-arg : goal.invariant-loop-arg
invariant-loop-arg l =
    has_word l.word (words_in (map arg_meaning l.args))
    ≡ has_word l.word (words_in (map arg_meaning (drop l.arg-index l.args)))
