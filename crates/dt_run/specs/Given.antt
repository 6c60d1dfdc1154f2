-- What the code is given, as the definitions see it.
--   texts words      the words' bytes
--   meant a          what is asked for
use Rattle.std.specs.Prelude.{ℕ, List, map}
use Rattle.std.specs.Borrow.{Bor}
use Rattle.dt_run.specs.Words as words
use Rattle.dt_run.specs.declared.words.Asked.{Asked}

-- the words' bytes
abbrev pub texts : List (Bor (List ℕ)) → List (List ℕ)
texts ws = map (λ s. s.now) ws

-- what is asked for
abbrev pub meant : Asked → words.Asked
meant a = record { script = a.script.now; is_check = a.is_check }
