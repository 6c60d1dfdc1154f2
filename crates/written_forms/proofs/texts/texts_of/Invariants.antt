use Rattle.std.proofs.Common.{◌≡◌, length, map, drop}
use Rattle.session_model.specs.Meaning.{arg_meaning}
use Rattle.session_model.specs.Items.{arg_texts_from}
use Rattle.written_forms.proofs.texts.texts_of.Given as goal
use Rattle.written_forms.specs.Texts.{lent_texts, onto_texts}

abbrev pub invariant-loop-arg : goal.invariant-loop-arg
invariant-loop-arg l =
    (arg_texts_from (map arg_meaning l.args)
    ≡ onto_texts (lent_texts l.texts.items) (arg_texts_from (map arg_meaning (drop l.arg-index l.args))))
    × (length l.texts.items ≡ l.arg-index)
