-- Coordinates of a box and their places are one another's.
use Rattle.std.proofs.Common.{◌≡◌, ℕ, ◌+◌, ◌-◌, ◌*◌, ◌/◌, ◌%◌, ◌<◌, ◌≤◌, ℤ, pos, ◌+ℤ◌, ◌-ℤ◌, ◌≤ℤ◌, ◌<ℤ◌, Bool, true, false, ◌&&◌, List, [], ◌∷◌, length, refl, sym, ap, ◌∙◌, arith}
use Rattle.std.specs.Prelude.{int_le, int_lt, unsigned_abs}
use Rattle.std.proofs.lemmas.Int.{ints}
use Rattle.std.proofs.Math.Nat.{div-eq_of_lt-le}
use Rattle.array_rows.specs.Dimension.{Dimension}
use Rattle.array_rows.specs.Rows.{Coordinate}
use Rattle.array_rows.specs.Boxes.{is_inside}
use Rattle.array_geom.specs.Geometry.{ChunkNumber, first_in, has_core, frame, frame_low, frame_lengths, volume, coordinate_in, position_in}
use Rattle.array_geom.specs.Inner.Ranges.{AreNear, AreLengths, is_in_grid}
use Rattle.array_geom.proofs.TestLaws.{and_parts, and_both, le_test, le_from_test, lt_test, lt_from_test}

-- how far x lies above l
pub above : (l x : ℤ) → l ≤ℤ x → l +ℤ pos (unsigned_abs (x -ℤ l)) ≡ x
above l x h = omega (arith, ints)

steps : (l : ℤ) (q : ℕ) → unsigned_abs ((l +ℤ pos q) -ℤ l) ≡ q
steps l q = omega (arith, ints)

steps_below : (l x : ℤ) (n : ℕ) → l ≤ℤ x → x <ℤ (l +ℤ pos n) → unsigned_abs (x -ℤ l) < n
steps_below l x n h k = omega (arith, ints)

pub row_below : (a n v b : ℕ) → a < n → b < v → a * v + b < n * v
row_below a n v b h k = grind arith

pub quotient_of : (n q k : ℕ) → q * k ≤ n → n < q * k + k → n / k ≡ q
quotient_of n q k h l =
    let below : n < (q + 1) * k = omega arith in
    div-eq_of_lt-le k h below

quotient : (a v b : ℕ) → b < v → (a * v + b) / v ≡ a
quotient a v b h = quotient_of (a * v + b) a v (omega arith) (omega arith)

whole_again : (p v : ℕ) → 0 < v → p / v * v + p % v ≡ p
whole_again p v h = grind arith

remainder : (a v b : ℕ) → b < v → (a * v + b) % v ≡ b
remainder a v b h =
    let q = quotient a v b h in
    let w : (a * v + b) / v * v + (a * v + b) % v ≡ a * v + b = whole_again (a * v + b) v (omega arith) in
    let r : a * v + (a * v + b) % v ≡ a * v + b = ap (λ (n : ℕ). n * v + (a * v + b) % v) (sym q) ∙ w in
    omega arith

-- the parts of a test
pub record InGrid (l x : ℤ) (n : ℕ) (more : Bool) : Type 0 where
  pub low : l ≤ℤ x
  pub high : x <ℤ (l +ℤ pos n)
  pub rest : more ≡ true

pub in_grid : (l x : ℤ) (n : ℕ) (more : Bool) → (int_le l x && int_lt x (l +ℤ pos n) && more) ≡ true → InGrid l x n more
in_grid l x n more e =
    let a = and_parts (int_le l x && int_lt x (l +ℤ pos n)) more e in
    let b = and_parts (int_le l x) (int_lt x (l +ℤ pos n)) a.0 in
    record { low = le_from_test _ _ b.0; high = lt_from_test _ _ b.1; rest = a.1 }

pub position_below : (lo : List ℤ) (ns : List ℕ) (c : Coordinate) → is_in_grid lo ns c ≡ true → position_in lo ns c < volume ns
position_below [] [] [] e = omega arith
position_below [] [] (x ∷ c) e = absurd cc
position_below [] (n ∷ ns) c e = absurd cc
position_below (l ∷ lo) [] c e = absurd cc
position_below (l ∷ lo) (n ∷ ns) [] e = absurd cc
position_below (l ∷ lo) (n ∷ ns) (x ∷ c) e =
    let t = in_grid l x n (is_in_grid lo ns c) e in
    row_below (unsigned_abs (x -ℤ l)) n (volume ns) (position_in lo ns c) (steps_below l x n t.low t.high) (position_below lo ns c t.rest)

-- the coordinate at the place of a coordinate
pub coordinate_again : (lo : List ℤ) (ns : List ℕ) (c : Coordinate) → is_in_grid lo ns c ≡ true → coordinate_in lo ns (position_in lo ns c) ≡ c
coordinate_again [] [] [] e = refl
coordinate_again [] [] (x ∷ c) e = absurd cc
coordinate_again [] (n ∷ ns) c e = absurd cc
coordinate_again (l ∷ lo) [] c e = absurd cc
coordinate_again (l ∷ lo) (n ∷ ns) [] e = absurd cc
coordinate_again (l ∷ lo) (n ∷ ns) (x ∷ c) e =
    let t = in_grid l x n (is_in_grid lo ns c) e in
    let b = position_below lo ns c t.rest in
    let a = unsigned_abs (x -ℤ l) in
    let q : (a * volume ns + position_in lo ns c) / volume ns ≡ a = quotient a (volume ns) (position_in lo ns c) b in
    let r : (a * volume ns + position_in lo ns c) % volume ns ≡ position_in lo ns c = remainder a (volume ns) (position_in lo ns c) b in
    ap (λ (k : ℕ). (l +ℤ pos k) ∷ coordinate_in lo ns ((a * volume ns + position_in lo ns c) % volume ns)) q
    ∙ ap (λ (k : ℕ). (l +ℤ pos a) ∷ coordinate_in lo ns k) r
    ∙ ap (λ (z : ℤ). z ∷ coordinate_in lo ns (position_in lo ns c)) (above l x t.low)
    ∙ ap (λ (d : Coordinate). x ∷ d) (coordinate_again lo ns c t.rest)

positive : (x y : ℕ) → 0 < x → 0 < y → 0 < x * y
positive x y p q = grind arith

pub some : (ns : List ℕ) → AreLengths ns → 0 < volume ns
some [] a = omega arith
some (n ∷ ns) a = positive n (volume ns) a.0 (some ns a.1)

row_of : (p n v : ℕ) → 0 < v → p < n * v → p / v < n
row_of p n v h k = grind arith

-- the place of the coordinate at a place
pub position_again : (lo : List ℤ) (ns : List ℕ) (p : ℕ) → AreLengths ns → length lo ≡ length ns → p < volume ns → position_in lo ns (coordinate_in lo ns p) ≡ p
position_again [] [] p a e h = omega arith
position_again [] (n ∷ ns) p a e h = absurd (omega arith)
position_again (l ∷ lo) [] p a e h = absurd (omega arith)
position_again (l ∷ lo) (n ∷ ns) p a e h =
    let s = some ns a.1 in
    let below : p % volume ns < volume ns = omega arith in
    ap (λ (k : ℕ). k * volume ns + position_in lo ns (coordinate_in lo ns (p % volume ns))) (steps l (p / volume ns))
    ∙ ap (λ (k : ℕ). p / volume ns * volume ns + k) (position_again lo ns (p % volume ns) a.1 (omega arith) below)
    ∙ whole_again p (volume ns) s

pub coordinate_in_grid : (lo : List ℤ) (ns : List ℕ) (p : ℕ) → AreLengths ns → length lo ≡ length ns → p < volume ns → is_in_grid lo ns (coordinate_in lo ns p) ≡ true
coordinate_in_grid [] [] p a e h = refl
coordinate_in_grid [] (n ∷ ns) p a e h = absurd (omega arith)
coordinate_in_grid (l ∷ lo) [] p a e h = absurd (omega arith)
coordinate_in_grid (l ∷ lo) (n ∷ ns) p a e h =
    let s = some ns a.1 in
    let q = row_of p n (volume ns) s h in
    let below : p % volume ns < volume ns = omega arith in
    and_both _ _ (and_both _ _ (le_test l (l +ℤ pos (p / volume ns)) (omega (arith, ints))) (lt_test (l +ℤ pos (p / volume ns)) (l +ℤ pos n) (omega (arith, ints)))) (coordinate_in_grid lo ns (p % volume ns) a.1 (omega arith) below)

-- ---- a frame's box

same_test : (a b : Bool) → (a ≡ true → b ≡ true) → (b ≡ true → a ≡ true) → a ≡ b
same_test true b f g = sym (f refl)
same_test false true f g = g refl
same_test false false f g = refl

side_end : (lo x : ℤ) (first chunk m : ℕ) → 0 < chunk → int_le x ((lo +ℤ pos (first + (chunk - 1))) +ℤ pos m) ≡ int_lt x (((lo +ℤ pos first) -ℤ pos m) +ℤ pos (chunk + 2 * m))
side_end lo x first chunk m h =
    let end = (lo +ℤ pos (first + (chunk - 1))) +ℤ pos m in
    let after = ((lo +ℤ pos first) -ℤ pos m) +ℤ pos (chunk + 2 * m) in
    same_test (int_le x end) (int_lt x after) (λ e. let f = le_from_test x end e in lt_test x after (omega (arith, ints))) (λ e. let f = lt_from_test x after e in le_test x end (omega (arith, ints)))

pub frame_is_grid : (dims : List Dimension) (margins : List ℕ) (ks : ChunkNumber) (c : Coordinate) → AreNear dims → length margins ≡ length dims → has_core dims ks ≡ true
    → is_inside (frame dims margins ks) c ≡ is_in_grid (frame_low dims margins ks) (frame_lengths dims margins) c
frame_is_grid [] margins ks [] n e h = refl
frame_is_grid [] margins ks (x ∷ c) n e h = refl
frame_is_grid (d ∷ dims) [] ks c n e h = absurd (omega arith)
frame_is_grid (d ∷ dims) (m ∷ margins) [] c n e h = absurd cc
frame_is_grid (d ∷ dims) (m ∷ margins) (k ∷ ks) [] n e h = refl
frame_is_grid (d ∷ dims) (m ∷ margins) (k ∷ ks) (x ∷ c) n e h =
    let t = and_parts (int_le (first_in d k) d.hi) (has_core dims ks) h in
    ap (λ (b : Bool). int_le (first_in d k -ℤ pos m) x && b && is_inside (frame dims margins ks) c) (side_end d.lo x (k * d.chunk) d.chunk m n.0.some)
    ∙ ap (λ (b : Bool). int_le (first_in d k -ℤ pos m) x && int_lt x ((first_in d k -ℤ pos m) +ℤ pos (d.chunk + 2 * m)) && b) (frame_is_grid dims margins ks c n.1 (omega arith) t.1)
