-- Bounds beyond 64 bits, and products cut off where 64 bits end.
use Rattle.std.proofs.Common.{◌≡◌, ◌≤◌, ℕ, ◌+◌, ◌-◌, ◌*◌, ◌^◌, ℤ, pos, ◌+ℤ◌, min, List, ◌∷◌, ap, sym, ◌∙◌, arith}
use Rattle.std.specs.Int.{w64, saturate_signed}
use Rattle.std.specs.Prelude.{FitsSigned, int_le}
use Rattle.std.proofs.lemmas.Int.{ints}
use Rattle.logical_plan.specs.Typing.{product_of}
use Rattle.check_rules.proofs.Capped.{capped}

-- the greatest number of 64 bits is no bound
pub same_room : (z : ℤ) → int_le (saturate_signed w64 z) (pos 4611686018427387903) ≡ int_le z (pos 4611686018427387903)
same_room z = grind (arith, ints)

-- places beyond 64 bits, counted from a low bound
pub farther : (low : ℤ) (n m : ℕ) → FitsSigned w64 low → saturate_signed w64 (low +ℤ pos (min (min n (2 ^ 64 - 1) + m) (2 ^ 64 - 1))) ≡ saturate_signed w64 (low +ℤ pos (n + m))
farther low n m fits = grind (arith, ints)

pub product_on : (n : ℕ) (ns : List ℕ) → n ≤ 2 ^ 64 - 1 → min (n * min (product_of ns) (2 ^ 64 - 1)) (2 ^ 64 - 1) ≡ min (product_of (n ∷ ns)) (2 ^ 64 - 1)
product_on n ns few =
    let same : min n (2 ^ 64 - 1) ≡ n = omega (arith, few) in
    ap (λ m. min (m * min (product_of ns) (2 ^ 64 - 1)) (2 ^ 64 - 1)) (sym same) ∙ capped n (product_of ns) (2 ^ 64 - 1) (omega arith)
