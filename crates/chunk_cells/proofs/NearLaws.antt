-- The chunks whose frame has a coordinate are those whose number lies in a box of numbers.
use Rattle.std.proofs.Common.{◌≡◌, ℕ, ◌+◌, ◌-◌, ◌*◌, ◌/◌, ◌<◌, ◌≤◌, ℤ, pos, ◌+ℤ◌, ◌-ℤ◌, ◌≤ℤ◌, Bool, true, false, ◌&&◌, List, [], ◌∷◌, length, refl, sym, ap, ◌∙◌, arith}
use Rattle.std.specs.Prelude.{int_le, nat_le, unsigned_abs}
use Rattle.std.specs.Ordering.{is_lt, nat_cmp, ordering_then}
use Rattle.std.specs.declared.cmp.Ordering.{Ordering}
use Rattle.std.specs.declared.cmp.Ordering.TheVariants.{Less, Equal, Greater}
use Rattle.std.proofs.lemmas.Cmp.{ranked}
use Rattle.std.proofs.lemmas.Int.{ints}
use Rattle.cell_values.specs.declared.schema.Dimension.{Dimension}
use Rattle.array_rows.specs.Boxes.{is_inside, bounds_of}
use Rattle.array_rows.specs.Rows.{Coordinate}
use Rattle.array_geom.specs.Geometry.{ChunkNumber, first_in, last_in, frame}
use Rattle.array_geom.specs.Link.{number_order}
use Rattle.array_geom.specs.Inner.Ranges.{AreNear}
use Rattle.array_geom.proofs.PlaceLaws.{above}
use Rattle.array_geom.proofs.TestLaws.{and_parts, le_test, le_from_test, at_most}
use Rattle.chunk_cells.specs.Inner.Near.{near_low, near_high, lies_between}
use Rattle.chunk_cells.proofs.CellLaws.{same_tests}

quotient_le : (n k c : ℕ) → 0 < c → n < k * c + c → n / c ≤ k
quotient_le n k c p h = grind arith

below_next : (n k c : ℕ) → 0 < c → n / c ≤ k → n < k * c + c
below_next n k c p h = grind arith

le_quotient : (n k c : ℕ) → 0 < c → k * c ≤ n → k ≤ n / c
le_quotient n k c p h = grind arith

times_le : (n k c : ℕ) → 0 < c → k ≤ n / c → k * c ≤ n
times_le n k c p h = grind arith

at_most_test : (a b : ℕ) → a ≤ b → nat_le a b ≡ true
at_most_test a b h = grind arith

low_test : (d : Dimension) (m k : ℕ) (x : ℤ) → 0 < d.chunk → d.lo ≤ℤ x → int_le x (last_in d k +ℤ pos m) ≡ nat_le ((unsigned_abs (x -ℤ d.lo) - m) / d.chunk) k
low_test d m k x p h =
    let s = unsigned_abs (x -ℤ d.lo) in
    let e = above d.lo x h in
    same_tests (int_le x (last_in d k +ℤ pos m)) (nat_le ((s - m) / d.chunk) k)
    (λ t. let f = le_from_test x (last_in d k +ℤ pos m) t in at_most_test ((s - m) / d.chunk) k (quotient_le (s - m) k d.chunk p (omega (arith, ints))))
    (λ t. let f = below_next (s - m) k d.chunk p (at_most ((s - m) / d.chunk) k t) in le_test x (last_in d k +ℤ pos m) (omega (arith, ints)))

high_test : (d : Dimension) (m k : ℕ) (x : ℤ) → 0 < d.chunk → d.lo ≤ℤ x → int_le (first_in d k -ℤ pos m) x ≡ nat_le k ((unsigned_abs (x -ℤ d.lo) + m) / d.chunk)
high_test d m k x p h =
    let s = unsigned_abs (x -ℤ d.lo) in
    let e = above d.lo x h in
    same_tests (int_le (first_in d k -ℤ pos m) x) (nat_le k ((s + m) / d.chunk))
    (λ t. let f = le_from_test (first_in d k -ℤ pos m) x t in at_most_test k ((s + m) / d.chunk) (le_quotient (s + m) k d.chunk p (omega (arith, ints))))
    (λ t. let f = times_le (s + m) k d.chunk p (at_most k ((s + m) / d.chunk) t) in le_test (first_in d k -ℤ pos m) x (omega (arith, ints)))

swap_and : (p q r : Bool) → (p && q && r) ≡ (q && p && r)
swap_and true true r = refl
swap_and true false r = refl
swap_and false true r = refl
swap_and false false r = refl

pub near_exact : (dims : List Dimension) (margins : List ℕ) (k : ChunkNumber) (c : Coordinate) → AreNear dims → length margins ≡ length dims → length k ≡ length dims → is_inside (bounds_of dims) c ≡ true
    → is_inside (frame dims margins k) c ≡ lies_between (near_low dims margins c) (near_high dims margins c) k
near_exact [] margins [] [] n e f h = refl
near_exact [] margins [] (x ∷ c) n e f h = cc
near_exact [] margins (q ∷ k) c n e f h = absurd (omega arith)
near_exact (d ∷ dims) [] k c n e f h = absurd (omega arith)
near_exact (d ∷ dims) (m ∷ margins) [] c n e f h = absurd (omega arith)
near_exact (d ∷ dims) (m ∷ margins) (q ∷ k) [] n e f h = cc
near_exact (d ∷ dims) (m ∷ margins) (q ∷ k) (x ∷ c) n e f h =
    let t = and_parts (int_le d.lo x && int_le x d.hi) (is_inside (bounds_of dims) c) h in
    let low = le_from_test d.lo x (and_parts (int_le d.lo x) (int_le x d.hi) t.0).0 in
    ap (λ (b : Bool). b && int_le x (last_in d q +ℤ pos m) && is_inside (frame dims margins k) c) (high_test d m q x n.0.some low)
    ∙ ap (λ (b : Bool). nat_le q ((unsigned_abs (x -ℤ d.lo) + m) / d.chunk) && b && is_inside (frame dims margins k) c) (low_test d m q x n.0.some low)
    ∙ ap (λ (b : Bool). nat_le q ((unsigned_abs (x -ℤ d.lo) + m) / d.chunk) && nat_le ((unsigned_abs (x -ℤ d.lo) - m) / d.chunk) q && b) (near_exact dims margins k c n.1 (omega arith) (omega arith) t.1)
    ∙ swap_and (nat_le q ((unsigned_abs (x -ℤ d.lo) + m) / d.chunk)) (nat_le ((unsigned_abs (x -ℤ d.lo) - m) / d.chunk) q) (lies_between (near_low dims margins c) (near_high dims margins c) k)

-- ---- the order of numbers that lie between others

pub then_not_less : (a b : ℕ) (rest : Ordering) → b ≤ a → is_lt rest ≡ false → is_lt (ordering_then (nat_cmp a b) rest) ≡ false
then_not_less a b rest h r = cases (nat_cmp a b) refl
  where
    cases : (t : Ordering) → nat_cmp a b ≡ t → is_lt (ordering_then t rest) ≡ false
    cases Equal e = r
    cases Greater e = refl
    cases Less e = let f : a < b = ranked a b Less (sym e) in absurd (omega arith)

pub not_below : (low high k : ChunkNumber) → lies_between low high k ≡ true → is_lt (number_order k low) ≡ false
not_below [] [] [] e = refl
not_below [] [] (q ∷ k) e = cc
not_below [] (h ∷ high) k e = cc
not_below (l ∷ low) [] k e = cc
not_below (l ∷ low) (h ∷ high) [] e = cc
not_below (l ∷ low) (h ∷ high) (q ∷ k) e =
    let t = and_parts (nat_le l q && nat_le q h) (lies_between low high k) e in
    then_not_less q l (number_order k low) (at_most l q (and_parts (nat_le l q) (nat_le q h) t.0).0) (not_below low high k t.1)

pub not_above : (low high k : ChunkNumber) → lies_between low high k ≡ true → is_lt (number_order high k) ≡ false
not_above [] [] [] e = refl
not_above [] [] (q ∷ k) e = cc
not_above [] (h ∷ high) k e = cc
not_above (l ∷ low) [] k e = cc
not_above (l ∷ low) (h ∷ high) [] e = cc
not_above (l ∷ low) (h ∷ high) (q ∷ k) e =
    let t = and_parts (nat_le l q && nat_le q h) (lies_between low high k) e in
    then_not_less h q (number_order high k) (at_most q h (and_parts (nat_le l q) (nat_le q h) t.0).1) (not_above low high k t.1)
