-- Numbers that a cell holds.
--   IsNumber n    n is above -2^63, which no cell holds
use Rattle.std.specs.Prelude.{ℤ, ◌≤ℤ◌, ◌^◌, ◌-◌, negsuc}

-- a cell holds the number, if its word does
abbrev pub IsNumber : ℤ → Type 0
IsNumber n = negsuc (2 ^ 63 - 2) ≤ℤ n
