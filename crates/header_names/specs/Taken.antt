-- Numbers that were put behind a name.
--   TakenBelow k n names   each name n with a number from 1 on and below k is one of these names
--   TakenUpTo k n names    the same up to k, and there are no fewer names
use Rattle.std.specs.Prelude.{◌≡◌, ◌<◌, ◌≤◌, ◌+◌, ℕ, true, List, length}
use Rattle.run_model.specs.CsvNames.{is_among, numbered}

-- each name n with a number from 1 on and below k is one of these names
pub record TakenBelow (k : ℕ) (n : List ℕ) (names : List (List ℕ)) : Type 0 where
  pub low : k ≤ length names + 1
  pub taken : (j : ℕ) → 1 ≤ j → j < k → is_among (numbered n j) names ≡ true

-- the same with k itself
abbrev pub TakenUpTo : ℕ → List ℕ → List (List ℕ) → Type 0
TakenUpTo k n names = TakenBelow (k + 1) n names
