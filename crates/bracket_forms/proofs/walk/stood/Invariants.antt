use Rattle.std.proofs.Common.{◌≡◌, drop}
use Rattle.written_forms.specs.Texts.{lent_texts}
use Rattle.session_model.specs.Asked.{has_word}
use Rattle.bracket_forms.proofs.walk.stood.Given as goal

abbrev pub invariant-loop-w : goal.invariant-loop-w
invariant-loop-w l = has_word l.word (lent_texts l.words) ≡ has_word l.word (lent_texts (drop l.w-index l.words))
