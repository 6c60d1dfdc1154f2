-- Quotients of numbers.
use Rattle.std.proofs.Common.{ℕ, ◌<◌, ◌/◌, ◌^◌, arith}
use Rattle.std.proofs.Math.Nat.{div-le_self}

pub quotient_small : (n m : ℕ) → n < 2 ^ 63 → n / m < 2 ^ 63
quotient_small n m h = omega (arith, div-le_self n m)

pub ruleset quotients = (quotient_small, div-le_self)
