-- Sums at the limits of 64 bits.
use Rattle.std.proofs.Common.{◌≡◌, ℕ, ◌+◌, ◌^◌, ℤ, pos, arith}
use Rattle.std.specs.Prelude.{◌-◌, ◌+ℤ◌, min}
use Rattle.std.specs.Int.{w64, saturate_signed}
use Rattle.std.specs.Int.RustNames.{FitsSigned}
use Rattle.std.proofs.lemmas.Int.{ints}

-- a count at its limit gives the same
pub far : (low : ℤ) (n : ℕ) → FitsSigned w64 low → saturate_signed w64 (low +ℤ pos (min n (2 ^ 64 - 1))) ≡ saturate_signed w64 (low +ℤ pos n)
far low n fits = grind (arith, ints)

pub farther : (low : ℤ) (n m : ℕ) → FitsSigned w64 low → saturate_signed w64 (low +ℤ pos (min (min n (2 ^ 64 - 1) + m) (2 ^ 64 - 1))) ≡ saturate_signed w64 (low +ℤ pos (n + m))
farther low n m fits = grind (arith, ints)
