-- Numbers of places beyond 64 bits.
use Rattle.std.proofs.Common.{◌≡◌, ℕ, ◌+◌, ◌-◌, ◌^◌, ℤ, pos, ◌+ℤ◌, min, arith}
use Rattle.std.proofs.lemmas.Int.{ints}
use Rattle.std.specs.Int.{w64, saturate_signed}
use Rattle.std.specs.Prelude.{FitsSigned}

pub farther : (low : ℤ) (n m : ℕ) → FitsSigned w64 low → saturate_signed w64 (low +ℤ pos (min (min n (2 ^ 64 - 1) + m) (2 ^ 64 - 1))) ≡ saturate_signed w64 (low +ℤ pos (n + m))
farther low n m fits = grind (arith, ints)
