-- What digits spell when they follow others.
--   natural_after n ds    the number that the digits of n and ds spell, if these are digits and it is below 2^63
use Rattle.std.specs.Prelude.{ℕ, ◌^◌, ◌&&◌, nat_lt, List, Option, Some, None, if◌then◌else◌}
use Rattle.std.specs.Str.{all_ascii_digits}
use Rattle.std.specs.Str.Parse.{digits_value_after}

-- the number that digits spell after those of n, if they are digits and it is below 2^63
abbrev pub natural_after : ℕ → List ℕ → Option ℕ
natural_after n ds =
    if all_ascii_digits ds && nat_lt (digits_value_after 10 n ds) (2 ^ 63) then Some
    (digits_value_after 10 n ds) else None
