-- What tests of numbers say, and tests that are joined.
use Rattle.std.proofs.Common.{◌≡◌, ℕ, ◌≤◌, ℤ, ◌≤ℤ◌, ◌<ℤ◌, Bool, true, false, ◌&&◌, refl, ap, ◌∙◌, arith}
use Rattle.std.specs.Prelude.{nat_le, int_le, int_lt}
use Rattle.std.proofs.lemmas.Int.{ints}

pub and_parts : (a b : Bool) → (a && b) ≡ true → (a ≡ true) × (b ≡ true)
and_parts true true e = (refl, refl)
and_parts true false e = cc
and_parts false b e = cc

pub and_both : (a b : Bool) → a ≡ true → b ≡ true → (a && b) ≡ true
and_both a b p q = ap (λ v. v && b) p ∙ q

pub at_most : (x y : ℕ) → nat_le x y ≡ true → x ≤ y
at_most x y h = grind (arith, h)

pub le_test : (x y : ℤ) → x ≤ℤ y → int_le x y ≡ true
le_test x y h = grind (arith, ints)

pub le_from_test : (x y : ℤ) → int_le x y ≡ true → x ≤ℤ y
le_from_test x y h = grind (arith, ints)

pub lt_test : (x y : ℤ) → x <ℤ y → int_lt x y ≡ true
lt_test x y h = grind (arith, ints)

pub lt_from_test : (x y : ℤ) → int_lt x y ≡ true → x <ℤ y
lt_from_test x y h = grind (arith, ints)
