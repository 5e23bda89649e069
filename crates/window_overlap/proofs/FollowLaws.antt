-- The first coordinate of a box from another one on.
use Rattle.std.proofs.Common.{◌≡◌, ℤ, pos, ◌+ℤ◌, ◌≤ℤ◌, ◌<ℤ◌, int_le, ◌&&◌, true, false, ℕ, zero, suc, ◌+◌, ◌-◌, ◌≤◌, ◌<◌, Bool, not, cond, List, [], ◌∷◌, length, get_or, take, drop, one-add, Option, Some, None, refl, sym, ap, ◌∙◌, subst, arith}
use Rattle.std.specs.Prelude.{slice_index_or}
use Rattle.std.proofs.lemmas.List.{take_rest, take_all}
use Rattle.std.specs.List.{AllByRecursion}
use Rattle.std.specs.Ordering.{is_lt, int_cmp, MatchOrdering, ordering_then}
use Rattle.std.specs.Cmp.{int_ranks}
use Rattle.std.specs.Cmp.Lexicographic.{slice_cmp}
use Rattle.std.specs.declared.cmp.Ordering.{Ordering}
use Rattle.std.specs.declared.cmp.Ordering.TheVariants.{Less, Equal, Greater}
use Rattle.std.proofs.lemmas.Int.{ints}
use Rattle.arrayvec.specs.ArrayVec.{ArrayVec}
use Rattle.cell_values.specs.declared.datum.Row.{Row}
use Rattle.cell_values.specs.declared.schema.Bounds.{Bounds}
use Rattle.array_rows.specs.Boxes.{is_between, is_inside, within}
use Rattle.array_rows.specs.Rows.{Coordinate, row_major, IsBefore, IsRising}
use Rattle.array_rows.proofs.RowsLemmas.{row_major_total}
use Rattle.array_geom.proofs.TestLaws.{and_parts, le_from_test}
use Rattle.group_rows.proofs.RowLemmas.{turned}
use Rattle.window_overlap.specs.Inner.Skips.{AreBefore, IsFrom, Follows, begins_outside}

-- ---- coordinates that do not come before others, by their first numbers

first_from : (z x : ℤ) (c at : Coordinate) → is_lt (row_major (z ∷ c) (x ∷ at)) ≡ false → x ≤ℤ z
first_from z x c at h = cases (int_cmp z x) (int_ranks z x) h
  where
    cases : (o : Ordering) → MatchOrdering o (z <ℤ x) (z ≡ x) (x <ℤ z) → is_lt (ordering_then o (slice_cmp int_cmp c at)) ≡ false → x ≤ℤ z
    cases Less r k = absurd cc
    cases Equal r k = omega (arith, ints, r)
    cases Greater r k = omega (arith, ints, r)

rest_from : (z x : ℤ) (c at : Coordinate) → is_lt (row_major (z ∷ c) (x ∷ at)) ≡ false → z ≤ℤ x → is_lt (row_major c at) ≡ false
rest_from z x c at h l = cases (int_cmp z x) (int_ranks z x) h
  where
    cases : (o : Ordering) → MatchOrdering o (z <ℤ x) (z ≡ x) (x <ℤ z) → is_lt (ordering_then o (slice_cmp int_cmp c at)) ≡ false → is_lt (row_major c at) ≡ false
    cases Less r k = absurd cc
    cases Equal r k = k
    cases Greater r k = absurd (omega (arith, ints, r, l))

both_from : (z x : ℤ) (c at : Coordinate) → x ≤ℤ z → (z ≤ℤ x → is_lt (row_major c at) ≡ false) → is_lt (row_major (z ∷ c) (x ∷ at)) ≡ false
both_from z x c at l h = cases (int_cmp z x) (int_ranks z x)
  where
    cases : (o : Ordering) → MatchOrdering o (z <ℤ x) (z ≡ x) (x <ℤ z) → is_lt (ordering_then o (slice_cmp int_cmp c at)) ≡ false
    cases Less r = absurd (omega (arith, ints, r, l))
    cases Equal r = h (omega (arith, ints, r))
    cases Greater r = refl

-- a coordinate of a box, by its first number
record IsFirst (l h x : ℤ) (lo hi c : Coordinate) : Type 0 where
  low : l ≤ℤ x
  high : x ≤ℤ h
  rest : is_between lo hi c ≡ true

first_of : (l h x : ℤ) (lo hi c : Coordinate) → is_between (l ∷ lo) (h ∷ hi) (x ∷ c) ≡ true → IsFirst l h x lo hi c
first_of l h x lo hi c b =
    let parts = and_parts (int_le l x && int_le x h) (is_between lo hi c) b in
    let first = and_parts (int_le l x) (int_le x h) parts.0 in
    record { low = le_from_test l x first.0; high = le_from_test x h first.1; rest = parts.1 }

-- the low corner of a box comes before none of its coordinates
from_low : (lo hi c : Coordinate) → is_between lo hi c ≡ true → is_lt (row_major c lo) ≡ false
from_low [] [] [] b = refl
from_low [] [] (x ∷ c) b = absurd cc
from_low [] (h ∷ hi) c b = absurd cc
from_low (l ∷ lo) [] c b = absurd cc
from_low (l ∷ lo) (h ∷ hi) [] b = absurd cc
from_low (l ∷ lo) (h ∷ hi) (x ∷ c) b =
    let first = first_of l h x lo hi c b in
    both_from x l c lo first.low (λ m. from_low lo hi c first.rest)

-- ---- the coordinate that follows

pub follows_low : (lo hi at : Coordinate) (next : ArrayVec ℤ) → next.items ≡ lo → Follows lo hi at (Some next)
follows_low lo hi at next e c b n = subst (λ (d : Coordinate). is_lt (row_major c d) ≡ false) (sym e) (from_low lo hi c b)

pub follows_none : (l : ℤ) (lo at : Coordinate) → Follows (l ∷ lo) [] at None
follows_none l lo at c b n = cc

follows_past : (l h x : ℤ) (lo hi at : Coordinate) → h <ℤ x → Follows (l ∷ lo) (h ∷ hi) (x ∷ at) None
follows_past l h x lo hi at m [] b n = cc
follows_past l h x lo hi at m (z ∷ c) b n =
    let first = first_of l h z lo hi c b in
    let from = first_from z x c at n in
    omega (arith, ints, m, first.high, from)

follows_same : (l h x : ℤ) (lo hi at : Coordinate) (rest next : ArrayVec ℤ) → Follows lo hi at (Some rest) → next.items ≡ x ∷ rest.items → Follows (l ∷ lo) (h ∷ hi) (x ∷ at) (Some next)
follows_same l h x lo hi at rest next f e [] b n = absurd cc
follows_same l h x lo hi at rest next f e (z ∷ c) b n =
    let first = first_of l h z lo hi c b in
    subst (λ (d : Coordinate). is_lt (row_major (z ∷ c) d) ≡ false) (sym e)
    (both_from z x c rest.items (first_from z x c at n) (λ m. f c first.rest (rest_from z x c at n m)))

-- where nothing follows with the same first number
none_same : (l h x z : ℤ) (lo hi at c : Coordinate) → Follows lo hi at None → is_between (l ∷ lo) (h ∷ hi) (z ∷ c) ≡ true → is_lt (row_major (z ∷ c) (x ∷ at)) ≡ false → z ≤ℤ x → ⊥
none_same l h x z lo hi at c f b n m = f c (first_of l h z lo hi c b).rest (rest_from z x c at n m)

follows_more : (l h x : ℤ) (lo hi at : Coordinate) (next : ArrayVec ℤ) → Follows lo hi at None → next.items ≡ (x +ℤ pos 1) ∷ lo → Follows (l ∷ lo) (h ∷ hi) (x ∷ at) (Some next)
follows_more l h x lo hi at next f e [] b n = absurd cc
follows_more l h x lo hi at next f e (z ∷ c) b n =
    let first = first_of l h z lo hi c b in
    let from = first_from z x c at n in
    let more : (x +ℤ pos 1) ≤ℤ z = by_more (int_cmp z x) (int_ranks z x) from in
    subst (λ (d : Coordinate). is_lt (row_major (z ∷ c) d) ≡ false) (sym e)
    (both_from z (x +ℤ pos 1) c lo more (λ m. from_low lo hi c first.rest))
  where
    by_more : (o : Ordering) → MatchOrdering o (z <ℤ x) (z ≡ x) (x <ℤ z) → x ≤ℤ z → (x +ℤ pos 1) ≤ℤ z
    by_more Less r k = absurd (omega (arith, ints, r, k))
    by_more Equal r k = absurd (none_same l h x z lo hi at c f b n (omega (arith, ints, r)))
    by_more Greater r k = omega (arith, ints, r)

follows_end : (l h x : ℤ) (lo hi at : Coordinate) → Follows lo hi at None → h ≤ℤ x → Follows (l ∷ lo) (h ∷ hi) (x ∷ at) None
follows_end l h x lo hi at f m [] b n = cc
follows_end l h x lo hi at f m (z ∷ c) b n =
    let first = first_of l h z lo hi c b in
    let high = first.high in
    none_same l h x z lo hi at c f b n (omega (arith, ints, m, high))

-- ---- of lists that are taken apart

abbrev rest_of : List ℤ → List ℤ
rest_of xs = take (length xs - 1) (drop 1 xs)

of_rests : (l h x : ℤ) (lo hi at : Coordinate) (next : Option (ArrayVec ℤ)) → Follows (rest_of (l ∷ lo)) (rest_of (h ∷ hi)) (rest_of (x ∷ at)) next → Follows lo hi at next
of_rests l h x lo hi at next f =
    subst (λ (d : Coordinate). Follows lo hi d next) (take_rest (x ∷ at) 1)
    (subst (λ (d : Coordinate). Follows lo d (rest_of (x ∷ at)) next) (take_rest (h ∷ hi) 1)
    (subst (λ (d : Coordinate). Follows d (rest_of (h ∷ hi)) (rest_of (x ∷ at)) next) (take_rest (l ∷ lo) 1) f))

pub same_at : (low high at : Coordinate) (rest next : ArrayVec ℤ) → 1 ≤ length low → 1 ≤ length high → 1 ≤ length at → Follows (rest_of low) (rest_of high) (rest_of at) (Some rest) → next.items ≡ slice_index_or at 0 (pos 0) ∷ rest.items
    → Follows low high at (Some next)
same_at [] high at rest next p q r f e = absurd (omega (arith, p))
same_at (l ∷ lo) [] at rest next p q r f e = absurd (omega (arith, q))
same_at (l ∷ lo) (h ∷ hi) [] rest next p q r f e = absurd (omega (arith, r))
same_at (l ∷ lo) (h ∷ hi) (x ∷ at) rest next p q r f e = follows_same l h x lo hi at rest next (of_rests l h x lo hi at (Some rest) f) e

pub more_at : (low high at : Coordinate) (next : ArrayVec ℤ) → 1 ≤ length low → 1 ≤ length high → 1 ≤ length at → Follows (rest_of low) (rest_of high) (rest_of at) None → next.items ≡ (slice_index_or at 0 (pos 0) +ℤ pos 1) ∷ rest_of low
    → Follows low high at (Some next)
more_at [] high at next p q r f e = absurd (omega (arith, p))
more_at (l ∷ lo) [] at next p q r f e = absurd (omega (arith, q))
more_at (l ∷ lo) (h ∷ hi) [] next p q r f e = absurd (omega (arith, r))
more_at (l ∷ lo) (h ∷ hi) (x ∷ at) next p q r f e =
    follows_more l h x lo hi at next (of_rests l h x lo hi at None f) (e ∙ ap (λ (d : Coordinate). (x +ℤ pos 1) ∷ d) (take_rest (l ∷ lo) 1))

pub past_at : (low high at : Coordinate) → 1 ≤ length low → 1 ≤ length high → 1 ≤ length at → slice_index_or high 0 (pos 0) <ℤ slice_index_or at 0 (pos 0) → Follows low high at None
past_at [] high at p q r m = absurd (omega (arith, p))
past_at (l ∷ lo) [] at p q r m = absurd (omega (arith, q))
past_at (l ∷ lo) (h ∷ hi) [] p q r m = absurd (omega (arith, r))
past_at (l ∷ lo) (h ∷ hi) (x ∷ at) p q r m = follows_past l h x lo hi at m

pub end_at : (low high at : Coordinate) → 1 ≤ length low → 1 ≤ length high → 1 ≤ length at → Follows (rest_of low) (rest_of high) (rest_of at) None → slice_index_or high 0 (pos 0) ≤ℤ slice_index_or at 0 (pos 0) → Follows low high at None
end_at [] high at p q r f m = absurd (omega (arith, p))
end_at (l ∷ lo) [] at p q r f m = absurd (omega (arith, q))
end_at (l ∷ lo) (h ∷ hi) [] p q r f m = absurd (omega (arith, r))
end_at (l ∷ lo) (h ∷ hi) (x ∷ at) p q r f m = follows_end l h x lo hi at (of_rests l h x lo hi at None f) m

pub no_box : (low high at : Coordinate) → 1 ≤ length low → length high < 1 → Follows low high at None
no_box [] high at p q = absurd (omega (arith, p))
no_box (l ∷ lo) [] at p q = follows_none l lo at
no_box (l ∷ lo) (h ∷ hi) at p q = absurd (omega (arith, q))

-- ---- rows that are left out

-- rows behind a coordinate lie outside a box, where none of them is one that the box may have there
none_inside : (area : Bounds) (at : Coordinate) (next : Option (ArrayVec ℤ)) (rows : List Row) → Follows area.lo.items area.hi.items at next → IsBefore at rows → AllByRecursion (λ row. IsFrom next row.at.items → ⊥) rows → within area rows ≡ []
none_inside area at next [] f b a = refl
none_inside area at next (row ∷ rows) f b a = cases (is_inside area row.at.items) refl (none_inside area at next rows f b.1 a.1)
  where
    cases : (v : Bool) → is_inside area row.at.items ≡ v → within area rows ≡ [] → cond v (row ∷ within area rows) (within area rows) ≡ []
    cases false e r = r
    cases true e r = absurd (a.0 (f row.at.items e (ap is_lt (turned at row.at.items b.0))))

not_from : (next : ArrayVec ℤ) (rows : List Row) → AreBefore next.items rows → AllByRecursion (λ row. IsFrom (Some next) row.at.items → ⊥) rows
not_from next [] b = tt
not_from next (row ∷ rows) b = (λ f. let g = ap is_lt b.0 in cc, not_from next rows b.1)

never_from : (rows : List Row) → AllByRecursion (λ row. IsFrom None row.at.items → ⊥) rows
never_from [] = tt
never_from (row ∷ rows) = (λ f. f, never_from rows)

before_some : (at : Coordinate) (n : ℕ) (rows : List Row) → IsBefore at rows → IsBefore at (take n rows)
before_some at zero rows b = tt
before_some at (suc n) [] b = tt
before_some at (suc n) (row ∷ rows) b = (b.0, before_some at n rows b.1)

left_out : (area : Bounds) (row : Row) (rows : List Row) → not (is_inside area row.at.items) ≡ true → within area rows ≡ [] → within area (row ∷ rows) ≡ []
left_out area row rows o e = cases (is_inside area row.at.items) o
  where
    cases : (v : Bool) → not v ≡ true → cond v (row ∷ within area rows) (within area rows) ≡ []
    cases true n = absurd cc
    cases false n = e

pub skips_some : (area : Bounds) (rows : List Row) (first : Row) (next : ArrayVec ℤ) (n : ℕ) → 1 ≤ length rows → first ≡ get_or rows 0 first → IsRising rows → begins_outside area rows ≡ true
    → Follows area.lo.items area.hi.items first.at.items (Some next) → AreBefore next.items (take n (take (length rows - 1) (drop 1 rows))) → within area (take (1 + n) rows) ≡ []
skips_some area [] first next n l e r o f b = absurd (omega (arith, l))
skips_some area (row ∷ rows) first next n l e r o f b =
    let same = ap (λ (z : Row). z.at.items) e in
    let later = subst (λ (rs : List Row). AreBefore next.items (take n rs)) (take_rest (row ∷ rows) 1) b in
    rw one-add
    (left_out area row (take n rows) o
    (none_inside area row.at.items (Some next) (take n rows) (subst (λ (c : Coordinate). Follows area.lo.items area.hi.items c (Some next)) same f) (before_some row.at.items n rows r.0) (not_from next (take n rows) later)))

pub skips_all : (area : Bounds) (rows : List Row) (first : Row) → 1 ≤ length rows → first ≡ get_or rows 0 first → IsRising rows → begins_outside area rows ≡ true
    → Follows area.lo.items area.hi.items first.at.items None → within area (take (length rows) rows) ≡ []
skips_all area [] first l e r o f = absurd (omega (arith, l))
skips_all area (row ∷ rows) first l e r o f =
    let same = ap (λ (z : Row). z.at.items) e in
    ap (within area) (take_all (length (row ∷ rows)) (row ∷ rows) (omega arith))
    ∙ left_out area row rows o (none_inside area row.at.items None rows (subst (λ (c : Coordinate). Follows area.lo.items area.hi.items c None) same f) r.0 (never_from rows))

-- ---- a row in the middle

pub before_upto : (rows : List Row) (i : ℕ) (row : Row) (c : Coordinate) → IsRising rows → i < length rows → row ≡ get_or rows i row → row_major row.at.items c ≡ Less → AreBefore c (take (suc i) rows)
before_upto [] i row c r l e h = absurd (omega (arith, l))
before_upto (x ∷ rows) zero row c r l e h = (ap (λ (z : Row). row_major z.at.items c) (sym e) ∙ h, tt)
before_upto (x ∷ rows) (suc i) row c r l e h =
    (row_major_total.trans x.at.items row.at.items c (row_at rows i row r.0 (omega (arith, l)) e) h, before_upto rows i row c r.1 (omega (arith, l)) e h)
  where
    row_at : (rs : List Row) (j : ℕ) (z : Row) → IsBefore x.at.items rs → j < length rs → z ≡ get_or rs j z → row_major x.at.items z.at.items ≡ Less
    row_at [] j z b m f = absurd (omega (arith, m))
    row_at (y ∷ rs) zero z b m f = ap (λ (w : Row). row_major x.at.items w.at.items) f ∙ b.0
    row_at (y ∷ rs) (suc j) z b m f = row_at rs j z b.1 (omega (arith, m)) f

pub is_less : (o : Ordering) → is_lt o ≡ true → o ≡ Less
is_less Less e = refl
is_less Equal e = absurd cc
is_less Greater e = absurd cc

pub follows_for : (lo lo' hi hi' at at' : Coordinate) (next : Option (ArrayVec ℤ)) → lo ≡ lo' → hi ≡ hi' → at ≡ at' → Follows lo hi at next → Follows lo' hi' at' next
follows_for lo lo' hi hi' at at' next p q r f =
    subst (λ (d : Coordinate). Follows lo' hi' d next) r (subst (λ (d : Coordinate). Follows lo' d at next) q (subst (λ (d : Coordinate). Follows d hi at next) p f))
