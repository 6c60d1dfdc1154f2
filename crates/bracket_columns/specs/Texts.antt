-- Texts among the arguments of a call.
--   bare_text i      the text of an item that is a text literal without a name
--   call_texts w args  the texts that the call of w names columns by, if it does
--   texts_or o v     the columns that texts name, or else the vector v
--   answer_by w args v s  what the call of w gives as a j, where its vector is v
--   onto_texts done o  the texts of o, behind those that are done
use Rattle.std.specs.Prelude.{ℕ, List, ◌++◌, map, Option, None, Some, Result, codes, if◌then◌else◌}
use Rattle.std.specs.Str.{bytes_eq}
use Rattle.dt_base.specs.declared.fault.Fault.{Fault}
use Rattle.expr_model.specs.Surroundings.{Env}
use Rattle.func_table.specs.Calls.{is_list}
use Rattle.session_model.specs.Columns.{list_answer, text_columns}
use Rattle.session_model.specs.Form.{text_in}
use Rattle.session_model.specs.Items.{item_of, item_texts}
use Rattle.session_model.specs.Meanings.{Answer, ArgMeaning}
use Rattle.session_model.specs.Written.{Item}

abbrev pub unnamed_text : Option (List ℕ) → Option (List ℕ) → Option (List ℕ)
unnamed_text None text = text
unnamed_text (Some name) text = None

-- the text of an item that is a text literal without a name
abbrev pub bare_text : Item → Option (List ℕ)
bare_text i = unnamed_text i.name (text_in i.form)

-- only `c` names columns by texts
abbrev pub call_texts : List ℕ → List ArgMeaning → Option (List (List ℕ))
call_texts name args = if bytes_eq name (codes "c") then item_texts (map item_of args) else None

-- the columns that texts name, or else a vector
abbrev pub texts_or : Option (List (List ℕ)) → (Env → Result Answer Fault) → Env → Result Answer Fault
texts_or None vector s = vector s
texts_or (Some names) vector s = text_columns names s

-- what a call gives as a j: a list a table, texts their columns, and any other its vector
abbrev pub answer_by : List ℕ → List ArgMeaning → (Env → Result Answer Fault) → Env → Result Answer Fault
answer_by name args vector s =
    if is_list name then list_answer name args s else texts_or (call_texts name args) vector s

-- the texts behind those that are done
abbrev pub onto_texts : List (List ℕ) → Option (List (List ℕ)) → Option (List (List ℕ))
onto_texts done None = None
onto_texts done (Some texts) = Some (done ++ texts)
