-- What contracts see of a row in code.
--   row_seen x    the word, and what it names
use Rattle.std.specs.Prelude.{List, ℕ}
use Rattle.std.specs.Borrow.{Bor}

abbrev pub row_seen : {A : Type 0} → Bor (List ℕ) × A → List ℕ × A
row_seen x = (x.0.now, x.1)
