-- Items: arguments and expressions, as what stands in a call.
--   item_of a       an argument as an item
--   bare_item m     an expression as an item without a name
--   item_texts is   the texts of items that all are text literals without a name, one or more
--   arg_texts as    the same of arguments
use Rattle.std.specs.Prelude.{ℕ, List, [], ◌∷◌, map, Option, None, Some}
use Rattle.session_model.specs.Form.{text_in}
use Rattle.session_model.specs.Meanings.{ArgMeaning, Meaning}
use Rattle.session_model.specs.Written.{Item}

-- an argument
abbrev pub item_of : ArgMeaning → Item
item_of a =
    record {
      name = a.name;
      form = a.means.form;
      mentions = a.means.mentions;
      check = a.means.check;
      value = a.means.value;
    }

-- an expression that stands without a name
abbrev pub bare_item : Meaning → Item
bare_item m = item_of (record { name = None; means = m })

-- a text in front of texts, where neither has a name
abbrev pub text_before : Option (List ℕ) → Option (List ℕ) → Option (List (List ℕ)) → Option (List (List ℕ))
text_before None (Some text) (Some rest) = Some (text ∷ rest)
text_before _ _ _ = None

abbrev pub item_texts_from : List Item → Option (List (List ℕ))
item_texts_from [] = Some []
item_texts_from (i ∷ rest) = text_before i.name (text_in i.form) (item_texts_from rest)

-- of these there is one or more
abbrev pub item_texts : List Item → Option (List (List ℕ))
item_texts [] = None
item_texts (i ∷ rest) = item_texts_from (i ∷ rest)

-- the same of arguments
abbrev pub arg_texts_from : List ArgMeaning → Option (List (List ℕ))
arg_texts_from args = item_texts_from (map item_of args)

abbrev pub arg_texts : List ArgMeaning → Option (List (List ℕ))
arg_texts args = item_texts (map item_of args)
