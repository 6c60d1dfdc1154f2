-- How long a column is beside others.
--   Serves n len   a column of this length has a cell for each of n places
use Rattle.std.specs.Prelude.{◌≡◌, ◌⊎◌, ℕ}

-- one cell for all places, or one for each
abbrev pub Serves : ℕ → ℕ → Type 0
Serves n len = (len ≡ 1) ⊎ (len ≡ n)
