-- Cores cover the bounds, and lie apart.
use Rattle.std.proofs.Common.{◌≡◌, ℕ, suc, ◌+◌, ◌-◌, ◌*◌, ◌/◌, ◌<◌, ◌≤◌, ℤ, pos, ◌+ℤ◌, ◌-ℤ◌, ◌≤ℤ◌, ◌<ℤ◌, Bool, true, false, ◌&&◌, List, [], ◌∷◌, length, refl, sym, ap, ◌∙◌, arith}
use Rattle.std.specs.Prelude.{int_le, unsigned_abs}
use Rattle.std.specs.Int.{int_min, int_max}
use Rattle.std.proofs.lemmas.Int.{ints, clamps}
use Rattle.std.proofs.Math.Nat.{div-mul-le_self, lt-div-mul-add}
use Rattle.array_rows.specs.Dimension.{Dimension}
use Rattle.array_rows.specs.Rows.{Coordinate}
use Rattle.array_rows.specs.Boxes.{is_inside, bounds_of}
use Rattle.array_geom.specs.Geometry.{ChunkNumber, chunk_of, first_in, last_in, core, frame, has_core}
use Rattle.array_geom.specs.Inner.Ranges.{AreNear}
use Rattle.array_geom.proofs.TestLaws.{and_parts, and_both, le_test, le_from_test}
use Rattle.array_geom.proofs.PlaceLaws.{above, quotient_of}

first_le : (lo x : ℤ) (k : ℕ) → lo ≤ℤ x → (lo +ℤ pos (unsigned_abs (x -ℤ lo) / k * k)) ≤ℤ x
first_le lo x k h =
    let e = above lo x h in
    let m = div-mul-le_self (unsigned_abs (x -ℤ lo)) k in
    omega (arith, ints, e, m)

last_ge : (lo x : ℤ) (k : ℕ) → 0 < k → lo ≤ℤ x → x ≤ℤ (lo +ℤ pos (unsigned_abs (x -ℤ lo) / k * k + (k - 1)))
last_ge lo x k p h =
    let e = above lo x h in
    let m : unsigned_abs (x -ℤ lo) < unsigned_abs (x -ℤ lo) / k * k + k = lt-div-mul-add p in
    omega (arith, ints, e, m)

le_min : (x y z : ℤ) → x ≤ℤ y → x ≤ℤ z → x ≤ℤ (int_min y z)
le_min x y z h k = omega (arith, ints, clamps)

min_le_left : (x y z : ℤ) → x ≤ℤ (int_min y z) → x ≤ℤ y
min_le_left x y z h = omega (arith, ints, clamps)

min_le_right : (x y z : ℤ) → x ≤ℤ (int_min y z) → x ≤ℤ z
min_le_right x y z h = omega (arith, ints, clamps)

-- a coordinate of a side, and what is said of the other sides
record OnSide (l h x : ℤ) (more : Bool) : Type 0 where
  low : l ≤ℤ x
  high : x ≤ℤ h
  rest : more ≡ true

on_side : (l h x : ℤ) (more : Bool) → (int_le l x && int_le x h && more) ≡ true → OnSide l h x more
on_side l h x more e =
    let a = and_parts (int_le l x && int_le x h) more e in
    let b = and_parts (int_le l x) (int_le x h) a.0 in
    record { low = le_from_test _ _ b.0; high = le_from_test _ _ b.1; rest = a.1 }

side : (l h x : ℤ) (more : Bool) → OnSide l h x more → (int_le l x && int_le x h && more) ≡ true
side l h x more s = and_both _ _ (and_both _ _ (le_test l x s.low) (le_test x h s.high)) s.rest

-- each coordinate within the bounds lies in the core of its chunk
pub core_has : (dims : List Dimension) (c : Coordinate) → AreNear dims → is_inside (bounds_of dims) c ≡ true → is_inside (core dims (chunk_of dims c)) c ≡ true
core_has [] [] n e = refl
core_has [] (x ∷ c) n e = e
core_has (d ∷ dims) [] n e = absurd cc
core_has (d ∷ dims) (x ∷ c) n e =
    let s = on_side d.lo d.hi x (is_inside (bounds_of dims) c) e in
    side _ _ x _ (record { low = first_le d.lo x d.chunk s.low; high = le_min x d.hi _ s.high (last_ge d.lo x d.chunk n.0.some s.low); rest = core_has dims c n.1 s.rest })

-- the number of a chunk has as many numbers as there are dimensions
pub length-chunk_of : (dims : List Dimension) (c : Coordinate) → is_inside (bounds_of dims) c ≡ true → length (chunk_of dims c) ≡ length dims
length-chunk_of [] c e = refl
length-chunk_of (d ∷ dims) [] e = absurd cc
length-chunk_of (d ∷ dims) (x ∷ c) e = ap suc (length-chunk_of dims c (on_side d.lo d.hi x (is_inside (bounds_of dims) c) e).rest)

-- and so that chunk has a core
pub chunk_has_core : (dims : List Dimension) (c : Coordinate) → is_inside (bounds_of dims) c ≡ true → has_core dims (chunk_of dims c) ≡ true
chunk_has_core [] c e = refl
chunk_has_core (d ∷ dims) [] e = absurd cc
chunk_has_core (d ∷ dims) (x ∷ c) e =
    let s = on_side d.lo d.hi x (is_inside (bounds_of dims) c) e in
    let f = first_le d.lo x d.chunk s.low in
    let g = s.high in
    and_both _ _ (le_test _ d.hi (omega (arith, ints))) (chunk_has_core dims c s.rest)

between : (lo x : ℤ) (n m : ℕ) → (lo +ℤ pos n) ≤ℤ x → x ≤ℤ (lo +ℤ pos m) → (n ≤ unsigned_abs (x -ℤ lo)) × (unsigned_abs (x -ℤ lo) ≤ m)
between lo x n m h k = (omega (arith, ints), omega (arith, ints))

-- a coordinate lies in the core of its own chunk alone
pub core_of : (dims : List Dimension) (k : ChunkNumber) (c : Coordinate) → AreNear dims → length k ≡ length dims → is_inside (core dims k) c ≡ true → k ≡ chunk_of dims c
core_of [] [] c n l e = refl
core_of [] (q ∷ k) c n l e = absurd (omega arith)
core_of (d ∷ dims) [] c n l e = absurd (omega arith)
core_of (d ∷ dims) (q ∷ k) [] n l e = absurd cc
core_of (d ∷ dims) (q ∷ k) (x ∷ c) n l e =
    let s = on_side (first_in d q) (int_min d.hi (last_in d q)) x (is_inside (core dims k) c) e in
    let b = between d.lo x (q * d.chunk) (q * d.chunk + (d.chunk - 1)) s.low (min_le_right x d.hi (last_in d q) s.high) in
    let p = n.0.some in
    let first : unsigned_abs (x -ℤ d.lo) / d.chunk ≡ q = quotient_of (unsigned_abs (x -ℤ d.lo)) q d.chunk b.0 (omega (arith, b.1, p)) in
    ap (λ (j : ℕ). j ∷ k) (sym first) ∙ ap (λ (ks : ChunkNumber). unsigned_abs (x -ℤ d.lo) / d.chunk ∷ ks) (core_of dims k c n.1 (omega arith) s.rest)

first_ge : (lo x : ℤ) (n : ℕ) → (lo +ℤ pos n) ≤ℤ x → lo ≤ℤ x
first_ge lo x n h = omega (arith, ints)

-- a core lies within the bounds
pub core_within : (dims : List Dimension) (k : ChunkNumber) (c : Coordinate) → has_core dims k ≡ true → is_inside (core dims k) c ≡ true → is_inside (bounds_of dims) c ≡ true
core_within [] k c h e = e
core_within (d ∷ dims) [] c h e = absurd cc
core_within (d ∷ dims) (q ∷ k) [] h e = e
core_within (d ∷ dims) (q ∷ k) (x ∷ c) h e =
    let t = and_parts (int_le (first_in d q) d.hi) (has_core dims k) h in
    let s = on_side (first_in d q) (int_min d.hi (last_in d q)) x (is_inside (core dims k) c) e in
    side _ _ x _ (record { low = first_ge d.lo x (q * d.chunk) s.low; high = min_le_left x d.hi (last_in d q) s.high; rest = core_within dims k c t.1 s.rest })

less_margin : (x y : ℤ) (m : ℕ) → x ≤ℤ y → (x -ℤ pos m) ≤ℤ y
less_margin x y m h = omega (arith, ints)

more_margin : (x y : ℤ) (m : ℕ) → x ≤ℤ y → x ≤ℤ (y +ℤ pos m)
more_margin x y m h = omega (arith, ints)

-- a core lies in its frame
pub core_in_frame : (dims : List Dimension) (margins : List ℕ) (k : ChunkNumber) (c : Coordinate) → length margins ≡ length dims → is_inside (core dims k) c ≡ true → is_inside (frame dims margins k) c ≡ true
core_in_frame [] margins k c n e = e
core_in_frame (d ∷ dims) [] k c n e = absurd (omega arith)
core_in_frame (d ∷ dims) (m ∷ margins) [] c n e = e
core_in_frame (d ∷ dims) (m ∷ margins) (q ∷ k) [] n e = e
core_in_frame (d ∷ dims) (m ∷ margins) (q ∷ k) (x ∷ c) n e =
    let s = on_side (first_in d q) (int_min d.hi (last_in d q)) x (is_inside (core dims k) c) e in
    side _ _ x _ (record {
      low = less_margin (first_in d q) x m s.low;
      high = more_margin x (last_in d q) m (min_le_right x d.hi (last_in d q) s.high);
      rest = core_in_frame dims margins k c (omega arith) s.rest;
    })

-- ---- numbers of chunks beyond the last one

beyond : (s k c : ℕ) → 0 < c → s / c < k → s < k * c
beyond s k c p h = grind arith

upto : (s k c : ℕ) → 0 < c → k ≤ s / c → k * c ≤ s
upto s k c p h = grind arith

pub past_the_end : (d : Dimension) (k : ℕ) → 0 < d.chunk → d.lo ≤ℤ d.hi → unsigned_abs (d.hi -ℤ d.lo) / d.chunk < k → d.hi <ℤ first_in d k
past_the_end d k p o h =
    let e = above d.lo d.hi o in
    let u = beyond (unsigned_abs (d.hi -ℤ d.lo)) k d.chunk p h in
    omega (arith, ints)

pub up_to_the_end : (d : Dimension) (k : ℕ) → 0 < d.chunk → d.lo ≤ℤ d.hi → k ≤ unsigned_abs (d.hi -ℤ d.lo) / d.chunk → first_in d k ≤ℤ d.hi
up_to_the_end d k p o h =
    let e = above d.lo d.hi o in
    let u = upto (unsigned_abs (d.hi -ℤ d.lo)) k d.chunk p h in
    omega (arith, ints)

-- a chunk beyond the last one has no place
pub not_met : (d : Dimension) (k n : ℕ) (lo hi : ℤ) → 0 < d.chunk → d.lo ≤ℤ d.hi → n ≡ unsigned_abs (d.hi -ℤ d.lo) / d.chunk → n < k
    → false ≡ int_le (int_max (first_in d k) lo) (int_min (int_min d.hi (last_in d k)) hi)
not_met d k n lo hi some order last past =
    let beyond_end : d.hi <ℤ first_in d k = past_the_end d k some order (omega (arith, last, past)) in
    none_of (int_max (first_in d k) lo) (int_min (int_min d.hi (last_in d k)) hi) (omega (arith, ints, clamps))
  where
    none_of : (x y : ℤ) → y <ℤ x → false ≡ int_le x y
    none_of x y h = grind (arith, ints)
