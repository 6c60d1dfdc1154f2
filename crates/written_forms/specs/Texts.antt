-- Texts among the arguments of a call.
--   bare_text a        the text of an argument that is a text literal without a name
--   call_texts w args  the texts of the call of `c`, if all its arguments are such and it has one or more
--   lent_texts ts      texts that are lent
--   onto_texts done o  the texts of o, behind those that are done
use Rattle.std.specs.Borrow.{Bor}
use Rattle.std.specs.Prelude.{ℕ, List, map, ◌++◌, Option, None, Some, codes, if◌then◌else◌}
use Rattle.std.specs.Str.{bytes_eq}
use Rattle.session_model.specs.Form.{text_in}
use Rattle.session_model.specs.Items.{arg_texts}
use Rattle.session_model.specs.Meanings.{ArgMeaning}

abbrev pub unnamed_text : Option (List ℕ) → Option (List ℕ) → Option (List ℕ)
unnamed_text None text = text
unnamed_text (Some name) text = None

-- the text of an argument that is a text literal without a name
abbrev pub bare_text : ArgMeaning → Option (List ℕ)
bare_text a = unnamed_text a.name (text_in a.means.form)

-- only `c` has texts
abbrev pub call_texts : List ℕ → List ArgMeaning → Option (List (List ℕ))
call_texts name args = if bytes_eq name (codes "c") then arg_texts args else None

-- texts that are lent
abbrev pub lent_texts : List (Bor (List ℕ)) → List (List ℕ)
lent_texts ts = map (λ t. t.now) ts

-- the texts behind those that are done
abbrev pub onto_texts : List (List ℕ) → Option (List (List ℕ)) → Option (List (List ℕ))
onto_texts done None = None
onto_texts done (Some texts) = Some (done ++ texts)
