-- One step after another.
--   then_do a k        the second step on what the first gives, or the first's fault
use Rattle.std.specs.Prelude.{Result, Ok, Err}

-- the second step on what the first gives, or the first's fault
abbrev pub then_do : {A B F : Type 0} → Result A F → (A → Result B F) → Result B F
then_do (Err f) k = Err f
then_do (Ok a) k = k a
