use Rattle.std.proofs.Common.{◌≡◌, length, map, drop}
use Rattle.bracket_columns.specs.Texts.{onto_texts}
use Rattle.session_model.specs.Items.{item_of, item_texts_from}
use Rattle.session_model.specs.Meaning.{arg_meaning}
use Rattle.bracket_columns.proofs.texts.texts_from.Given as goal

abbrev pub invariant-loop-arg : goal.invariant-loop-arg
invariant-loop-arg l =
    (item_texts_from (map item_of (map arg_meaning l.args))
    ≡ onto_texts l.texts.items (item_texts_from (map item_of (map arg_meaning (drop l.arg-index l.args)))))
    × (length l.texts.items ≡ l.arg-index)
