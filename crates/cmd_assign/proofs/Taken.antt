-- The rows of `set`, beside what its argument i means.
use Rattle.std.proofs.Common.{◌≡◌, ◌∙◌, Option, None, Some, if◌then◌else◌, refl, ap}
use Rattle.session_model.specs.Assigned.{is_null}
use Rattle.session_model.specs.Meanings.{ArgMeaning, Meaning}
use Rattle.session_model.specs.Set.{row_side}
use Rattle.table_argument.specs.Seen.{means}

-- the word NULL is no side
pub row_there : (o : Option ArgMeaning) (m : Meaning) (r : Option Meaning) → Some m ≡ means o
    → r ≡ (if is_null m.form then None else Some m) → r ≡ row_side o
row_there None m r h e = cc
row_there (Some a) m r h e =
    (let k : m ≡ a.means = cc in e ∙ ap (λ (x : Meaning). if is_null x.form then None else Some x) k)

pub row_missing : (o : Option ArgMeaning) → None ≡ means o → None ≡ row_side o
row_missing None h = refl
row_missing (Some a) h = cc

pub ruleset arguments = (row_there, row_missing)
