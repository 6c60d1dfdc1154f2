-- The argument that a formal takes, beside what its value means.
use Rattle.std.proofs.Common.{◌≡◌, ◌∙◌, ◌<◌, ◌≤◌, ℕ, List, Option, None, Some, Ok, Err}
use Rattle.std.proofs.Common.{length, map, slice_index_or, option_map, refl, ap, sym}
use Rattle.std.proofs.lemmas.Option.{slice_get-map, slice_get_read, slice_get_past}
use Rattle.table_argument.specs.Seen.{means}
use Rattle.dt_tree.specs.declared.tree.Arg.{Arg}
use Rattle.session_model.specs.Expression.{arg_at}
use Rattle.session_model.specs.Form.{name_in}
use Rattle.session_model.specs.Meaning.{arg_meaning}
use Rattle.session_model.specs.Meanings.{ArgMeaning, Meaning}
use Rattle.session_model.specs.NamedTable.{bare_name_of, needed}
use Rattle.vector_model.specs.Faults.{unbuilt}

-- the argument at a place that is within the list
pub value_found : (args : List Arg) (i : ℕ) (a : Arg) (m : Meaning) → i < length args → a ≡ slice_index_or args i a
    → (arg_meaning a).means ≡ m → Some m ≡ means (arg_at (map arg_meaning args) (Some i))
value_found args i a m h e k =
    ap Some (sym k)
    ∙ sym (ap means (slice_get-map arg_meaning args i
    ∙ ap (option_map arg_meaning) (slice_get_read args (length args) i a refl h e)))

-- there is none past the end
pub value_missing : (args : List Arg) (i : ℕ) → length args ≤ i
    → None ≡ means (arg_at (map arg_meaning args) (Some i))
value_missing args i h =
    sym (ap means (slice_get-map arg_meaning args i ∙ ap (option_map arg_meaning) (slice_get_past args i h)))

-- an argument that is needed
pub needed_there : (o : Option ArgMeaning) (m : Meaning) → Some m ≡ means o → needed o ≡ Ok m
needed_there None m h = cc
needed_there (Some a) m h = (let e : m ≡ a.means = cc in ap Ok (sym e))

pub needed_missing : (o : Option ArgMeaning) → None ≡ means o → needed o ≡ Err unbuilt
needed_missing None h = refl
needed_missing (Some a) h = cc

-- the name of a bare name
pub bare_there : (o : Option ArgMeaning) (m : Meaning) (r : Option (List ℕ)) → Some m ≡ means o → r ≡ name_in m.form
    → r ≡ bare_name_of o
bare_there None m r h e = cc
bare_there (Some a) m r h e = (let k : m ≡ a.means = cc in e ∙ ap (λ (x : Meaning). name_in x.form) k)

pub bare_missing : (o : Option ArgMeaning) → None ≡ means o → None ≡ bare_name_of o
bare_missing None h = refl
bare_missing (Some a) h = cc

pub ruleset arguments = (needed_there, needed_missing, bare_there, bare_missing)
