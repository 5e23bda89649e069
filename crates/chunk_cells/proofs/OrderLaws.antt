-- Coordinates of a box come in the order of their places.
use Rattle.std.proofs.Common.{◌≡◌, ℕ, ◌+◌, ◌*◌, ◌/◌, ◌%◌, ◌<◌, ◌≤◌, ℤ, pos, ◌+ℤ◌, ◌<ℤ◌, ◌⊎◌, inl, inr, List, [], ◌∷◌, length, refl, sym, ap, ◌∙◌, arith}
use Rattle.std.specs.Ordering.{int_cmp, ordering_then}
use Rattle.std.specs.declared.cmp.Ordering.{Ordering}
use Rattle.std.specs.declared.cmp.Ordering.TheVariants.{Less, Equal, Greater}
use Rattle.std.proofs.lemmas.Bool.{cases_lt}
use Rattle.std.proofs.lemmas.Cmp.{int_cmp_total, int_ranked, tied_itself}
use Rattle.std.proofs.lemmas.Int.{ints}
use Rattle.array_rows.specs.Rows.{row_major}
use Rattle.array_geom.specs.Geometry.{coordinate_in, volume}
use Rattle.array_geom.specs.Inner.Ranges.{AreLengths}
use Rattle.array_geom.proofs.PlaceLaws.{some}

int_less : (a b : ℤ) → a <ℤ b → int_cmp a b ≡ Less
int_less a b h = cases (int_cmp a b) refl
  where
    cases : (t : Ordering) → int_cmp a b ≡ t → t ≡ Less
    cases Less e = refl
    cases Equal e = let f : a ≡ b = int_ranked a b Equal (sym e) in absurd (omega (arith, ints))
    cases Greater e = let f : b <ℤ a = int_ranked a b Greater (sym e) in absurd (omega (arith, ints))

quotient_rises : (p q v : ℕ) → 0 < v → p < q → p / v ≤ q / v
quotient_rises p q v s h = grind arith

whole : (p v : ℕ) → 0 < v → p / v * v + p % v ≡ p
whole p v h = grind arith

rest_rises : (p q v : ℕ) → 0 < v → p < q → p / v ≡ q / v → p % v < q % v
rest_rises p q v s h e =
    let a = whole p v s in
    let b = whole q v s in
    let c : p / v * v ≡ q / v * v = ap (λ (n : ℕ). n * v) e in
    omega arith

pub coordinate_rises : (low : List ℤ) (lengths : List ℕ) (p q : ℕ) → AreLengths lengths → length low ≡ length lengths → p < q → q < volume lengths → row_major (coordinate_in low lengths p) (coordinate_in low lengths q) ≡ Less
coordinate_rises [] [] p q a e h k = absurd (omega arith)
coordinate_rises [] (n ∷ ns) p q a e h k = absurd (omega arith)
coordinate_rises (l ∷ low) [] p q a e h k = absurd (omega arith)
coordinate_rises (l ∷ low) (n ∷ ns) p q a e h k =
    cases (cases_lt (p / volume ns) (q / volume ns)) (λ f. coordinate_rises low ns (p % volume ns) (q % volume ns) a.1 (omega arith) f (omega (arith, some ns a.1)))
  where
    cases : (p / volume ns < q / volume ns) ⊎ (q / volume ns ≤ p / volume ns) → (p % volume ns < q % volume ns → row_major (coordinate_in low ns (p % volume ns)) (coordinate_in low ns (q % volume ns)) ≡ Less)
        → ordering_then (int_cmp (l +ℤ pos (p / volume ns)) (l +ℤ pos (q / volume ns))) (row_major (coordinate_in low ns (p % volume ns)) (coordinate_in low ns (q % volume ns))) ≡ Less
    cases (inl f) more = ap (λ (t : Ordering). ordering_then t (row_major (coordinate_in low ns (p % volume ns)) (coordinate_in low ns (q % volume ns)))) (int_less (l +ℤ pos (p / volume ns)) (l +ℤ pos (q / volume ns)) (omega (arith, ints)))
    cases (inr f) more =
        let s = some ns a.1 in
        let g = quotient_rises p q (volume ns) s h in
        let same : p / volume ns ≡ q / volume ns = omega arith in
        ap (λ (t : Ordering). ordering_then t (row_major (coordinate_in low ns (p % volume ns)) (coordinate_in low ns (q % volume ns))))
        (ap (λ (m : ℕ). int_cmp (l +ℤ pos (p / volume ns)) (l +ℤ pos m)) (sym same) ∙ tied_itself int_cmp_total (l +ℤ pos (p / volume ns)))
        ∙ more (rest_rises p q (volume ns) s h same)
