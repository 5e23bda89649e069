-- Two arrays put into one.
use Rattle.std.proofs.Common.{◌≡◌, ℕ, ◌+◌, ℤ, pos, ◌+ℤ◌, ◌-ℤ◌, ◌≤ℤ◌, ◌<ℤ◌, true, ◌&&◌, List, [], ◌∷◌, ◌++◌, map, refl, sym, ap, ◌∙◌, subst, arith}
use Rattle.std.proofs.lemmas.Int.{ints}
use Rattle.std.specs.Cmp.{int_cmp_is, int_ranks}
use Rattle.std.specs.List.{AllByRecursion}
use Rattle.std.specs.Option.{option_or}
use Rattle.std.specs.Ordering.{int_cmp, ordering_then, MatchOrdering}
use Rattle.std.specs.Prelude.{IsTrue, int_le, unsigned_abs}
use Rattle.std.specs.declared.cmp.Ordering.{Ordering}
use Rattle.std.specs.declared.cmp.Ordering.TheVariants.{Less, Equal, Greater}
use Rattle.cell_values.specs.declared.datum.Cell.{Cell}
use Rattle.cell_values.specs.declared.datum.Cell.TheVariants.{Full, Doubt}
use Rattle.cell_values.specs.declared.datum.Datum.{Datum}
use Rattle.cell_values.specs.declared.datum.Row.{Row}
use Rattle.cell_values.specs.declared.schema.Attribute.{Attribute}
use Rattle.cell_values.specs.declared.schema.Bounds.{Bounds}
use Rattle.cell_values.specs.declared.schema.Dimension.{Dimension}
use Rattle.cell_values.specs.Cells.{AreOfKinds, IsCellOf, is_of_kind}
use Rattle.array_rows.specs.Boxes.{bounds_of, by_pairs, corners, is_inside, moved}
use Rattle.array_rows.specs.Rows.{Coordinate, row_major, IsBefore, IsRising, cell_at, in_order, put_all, put_row}
use Rattle.array_rows.proofs.RowSets.{IsRising-in_order, cell_at-in_order, cell_at-put_all}
use Rattle.array_rows.proofs.RowsLemmas.{same_rows}
use Rattle.array_geom.proofs.TestLaws.{and_both, and_parts, le_test, le_from_test}
use Rattle.logical_plan.proofs.BuiltRows.{all-append, all-follows, all-map}
use Rattle.shape_rows.specs.Laws.{CanFollow, ConcatsAreArrays, MergesAreArrays, SameBounds, SameKinds}
use Rattle.logical_plan.specs.ShapeSchemas.{either_of, lengthened, length_of, with_high}
use Rattle.logical_plan.specs.Shapes.{along, concat_rows, merge_rows, step_between}
use Rattle.shape_rows.proofs.PullLaws.{all_in_order}

-- ---- cells of both

left_values : (a b : List Attribute) (vs : List Datum) → SameKinds a b → AreOfKinds a vs → AreOfKinds (by_pairs either_of a b) vs
left_values [] [] vs s k = k
left_values [] (y ∷ b) vs s k = absurd s
left_values (x ∷ a) [] vs s k = absurd s
left_values (x ∷ a) (y ∷ b) [] s k = absurd k
left_values (x ∷ a) (y ∷ b) (v ∷ vs) s k = (k.0, left_values a b vs s.1 k.1)

right_values : (a b : List Attribute) (vs : List Datum) → SameKinds a b → AreOfKinds b vs → AreOfKinds (by_pairs either_of a b) vs
right_values [] [] vs s k = k
right_values [] (y ∷ b) vs s k = absurd s
right_values (x ∷ a) [] vs s k = absurd s
right_values (x ∷ a) (y ∷ b) [] s k = absurd k
right_values (x ∷ a) (y ∷ b) (v ∷ vs) s k = (ap (λ kind. is_of_kind kind v) s.0 ∙ k.0, right_values a b vs s.1 k.1)

pub left_cell : (a b : List Attribute) (cell : Cell) → SameKinds a b → IsCellOf a cell → IsCellOf (by_pairs either_of a b) cell
left_cell a b (Full vs) s k = left_values a b vs s k
left_cell a b (Doubt kind) s k = tt

pub right_cell : (a b : List Attribute) (cell : Cell) → SameKinds a b → IsCellOf b cell → IsCellOf (by_pairs either_of a b) cell
right_cell a b (Full vs) s k = right_values a b vs s k
right_cell a b (Doubt kind) s k = tt

-- ---- merge

lows_same : (a b : List Dimension) → SameBounds a b → map (λ (d : Dimension). d.lo) b ≡ map (λ (d : Dimension). d.lo) a
lows_same [] [] s = refl
lows_same [] (y ∷ b) s = absurd s
lows_same (x ∷ a) [] s = absurd s
lows_same (x ∷ a) (y ∷ b) s = let rest = lows_same a b s.1 in λ i. sym s.0.0 i ∷ rest i

highs_same : (a b : List Dimension) → SameBounds a b → map (λ (d : Dimension). d.hi) b ≡ map (λ (d : Dimension). d.hi) a
highs_same [] [] s = refl
highs_same [] (y ∷ b) s = absurd s
highs_same (x ∷ a) [] s = absurd s
highs_same (x ∷ a) (y ∷ b) s = let rest = highs_same a b s.1 in λ i. sym s.0.1 i ∷ rest i

pub bounds_same : (a b : List Dimension) → SameBounds a b → bounds_of b ≡ bounds_of a
bounds_same a b s = λ i. corners (lows_same a b s i) (highs_same a b s i)

merged_is : (l r : List Row) → merge_rows l r ≡ put_all l (in_order r)
merged_is [] r = refl
merged_is (row ∷ l) r = ap (put_row row) (merged_is l r)

in_order_already : (rows : List Row) → IsRising rows → in_order rows ≡ rows
in_order_already rows rises = same_rows (in_order rows) rows (IsRising-in_order rows) rises (cell_at-in_order rows)

-- over rows that rise the left's are put
pub merged_over : (l r : List Row) → IsRising r → merge_rows l r ≡ put_all l r
merged_over l r rises = merged_is l r ∙ ap (put_all l) (in_order_already r rises)

pub cell_at-merged : (l r : List Row) (c : Coordinate) → cell_at (merge_rows l r) c ≡ option_or (cell_at l c) (cell_at r c)
cell_at-merged l r c = ap (λ (rows : List Row). cell_at rows c) (merged_is l r) ∙ cell_at-put_all l (in_order r) c ∙ ap (option_or (cell_at l c)) (cell_at-in_order r c)

pub merges_are_arrays : MergesAreArrays
merges_are_arrays left right l r valid kinds bounds p q = record {
  valid = valid;
  are_rows = record {
    rising = IsRising-in_order (l ++ r);
    in_bounds = all_in_order (λ row. IsTrue (is_inside (bounds_of left.dimensions) row.at.items)) (l ++ r) (all-append (λ row. IsTrue (is_inside (bounds_of left.dimensions) row.at.items)) l r p.are_rows.in_bounds
        (subst (λ (b : Bounds). AllByRecursion (λ row. IsTrue (is_inside b row.at.items)) r) (bounds_same left.dimensions right.dimensions bounds) q.are_rows.in_bounds));
  };
  kinds = all_in_order (λ row. IsCellOf (by_pairs either_of left.attributes right.attributes) row.cell) (l ++ r) (all-append (λ row. IsCellOf (by_pairs either_of left.attributes right.attributes) row.cell) l r
      (all-follows (λ (row : Row). IsCellOf left.attributes row.cell) (λ row. IsCellOf (by_pairs either_of left.attributes right.attributes) row.cell) (λ row k. left_cell left.attributes right.attributes row.cell kinds k) l p.kinds)
      (all-follows (λ (row : Row). IsCellOf right.attributes row.cell) (λ row. IsCellOf (by_pairs either_of left.attributes right.attributes) row.cell) (λ row k. right_cell left.attributes right.attributes row.cell kinds k) r q.kinds));
}

-- ---- concat

add_ranks : (n x y : ℤ) (r : Ordering) → MatchOrdering r (x <ℤ y) (x ≡ y) (y <ℤ x) → MatchOrdering r ((x +ℤ n) <ℤ (y +ℤ n)) ((x +ℤ n) ≡ (y +ℤ n)) ((y +ℤ n) <ℤ (x +ℤ n))
add_ranks n x y Less h = omega (arith, ints)
add_ranks n x y Equal h = ap (λ (z : ℤ). z +ℤ n) h
add_ranks n x y Greater h = omega (arith, ints)

add_cmp : (n x y : ℤ) → int_cmp (x +ℤ n) (y +ℤ n) ≡ int_cmp x y
add_cmp n x y = sym (int_cmp_is (x +ℤ n) (y +ℤ n) (int_cmp x y) (add_ranks n x y (int_cmp x y) (int_ranks x y)))

pub along_order : (by : ℤ) (a b : Coordinate) → row_major (along by a) (along by b) ≡ row_major a b
along_order by [] [] = refl
along_order by [] (y ∷ b) = refl
along_order by (x ∷ a) [] = refl
along_order by (x ∷ a) (y ∷ b) = ap (λ (o : Ordering). ordering_then o (row_major a b)) (add_cmp by x y)

along_before : (by : ℤ) (a : Coordinate) (rows : List Row) → IsBefore a rows → IsBefore (along by a) (map (moved (along by)) rows)
along_before by a [] b = tt
along_before by a (row ∷ rows) b = (along_order by a row.at.items ∙ b.0, along_before by a rows b.1)

pub along_rises : (by : ℤ) (rows : List Row) → IsRising rows → IsRising (map (moved (along by)) rows)
along_rises by [] r = tt
along_rises by (row ∷ rows) r = (along_before by row.at.items rows r.0, along_rises by rows r.1)

all_before : (c : Coordinate) (a b : List Row) → IsBefore c a → IsBefore c b → IsBefore c (a ++ b)
all_before c a b p q = all-append (λ row. row_major c row.at.items ≡ Less) a b p q

pub append_rises : (a b : List Row) → IsRising a → IsRising b → AllByRecursion (λ row. IsBefore row.at.items b) a → IsRising (a ++ b)
append_rises [] b ra rb h = rb
append_rises (row ∷ a) b ra rb h = (all_before row.at.items a b ra.0 h.0, append_rises a b ra.1 rb h.1)

less_first : (x y : ℤ) (c d : Coordinate) → x <ℤ y → row_major (x ∷ c) (y ∷ d) ≡ Less
less_first x y c d h = ap (λ (o : Ordering). ordering_then o (row_major c d)) (less x y h)
  where
    less : (x y : ℤ) → x <ℤ y → int_cmp x y ≡ Less
    less x y h = grind (arith, ints)

from_next : (h l x : ℤ) → l ≤ℤ x → (h +ℤ pos 1) ≤ℤ (x +ℤ ((h +ℤ pos 1) -ℤ l))
from_next h l x e = omega (arith, ints)

below_next : (x h y : ℤ) → x ≤ℤ h → (h +ℤ pos 1) ≤ℤ y → x <ℤ y
below_next x h y e f = omega (arith, ints)

up_to_last : (h l m x : ℤ) → l ≤ℤ m → x ≤ℤ m → (x +ℤ ((h +ℤ pos 1) -ℤ l)) ≤ℤ (h +ℤ pos (unsigned_abs (m -ℤ l) + 1))
up_to_last h l m x o e = omega (arith, ints)

above_low : (l h y : ℤ) → l ≤ℤ h → (h +ℤ pos 1) ≤ℤ y → l ≤ℤ y
above_low l h y e f = omega (arith, ints)

below_new : (x h n : ℤ) (k : ℕ) → x ≤ℤ h → n ≡ (h +ℤ pos k) → x ≤ℤ n
below_new x h n k e f = omega (arith, ints)

is_below : (x m n : ℤ) → x ≤ℤ m → n ≡ m → x ≤ℤ n
is_below x m n e f = omega (arith, ints)

module _ (l r : Dimension) (left right : List Dimension) (can : CanFollow (l ∷ left) (r ∷ right)) where
  by : ℤ
  by = (l.hi +ℤ pos 1) -ℤ r.lo

  target : Bounds
  target = bounds_of (with_high l (l.hi +ℤ pos (length_of r)) ∷ left)

  before : (c d : Coordinate) → is_inside (bounds_of (l ∷ left)) c ≡ true → is_inside (bounds_of (r ∷ right)) d ≡ true → row_major c (along by d) ≡ Less
  unfolding by
  before [] d e f = absurd cc
  before (x ∷ c) [] e f = absurd cc
  before (x ∷ c) (y ∷ d) e f =
      let p = and_parts (int_le l.lo x && int_le x l.hi) (is_inside (bounds_of left) c) e in
      let q = and_parts (int_le l.lo x) (int_le x l.hi) p.0 in
      let s = and_parts (int_le r.lo y && int_le y r.hi) (is_inside (bounds_of right) d) f in
      let t = and_parts (int_le r.lo y) (int_le y r.hi) s.0 in
      less_first x (y +ℤ ((l.hi +ℤ pos 1) -ℤ r.lo)) c d (below_next x l.hi (y +ℤ ((l.hi +ℤ pos 1) -ℤ r.lo)) (le_from_test x l.hi q.1) (from_next l.hi r.lo y (le_from_test r.lo y t.0)))

  pub left_inside : (c : Coordinate) → is_inside (bounds_of (l ∷ left)) c ≡ true → is_inside (bounds_of (with_high l (l.hi +ℤ pos (length_of r)) ∷ left)) c ≡ true
  left_inside [] e = absurd cc
  left_inside (x ∷ c) e =
      let p = and_parts (int_le l.lo x && int_le x l.hi) (is_inside (bounds_of left) c) e in
      let q = and_parts (int_le l.lo x) (int_le x l.hi) p.0 in
      and_both _ _ (and_both _ _ q.0 (le_test x (with_high l (l.hi +ℤ pos (length_of r))).hi (below_new x l.hi (with_high l (l.hi +ℤ pos (length_of r))).hi (length_of r) (le_from_test x l.hi q.1) can.2))) p.1

  pub right_inside : (d : Coordinate) → is_inside (bounds_of (r ∷ right)) d ≡ true → is_inside (bounds_of (with_high l (l.hi +ℤ pos (length_of r)) ∷ left)) (along ((l.hi +ℤ pos 1) -ℤ r.lo) d) ≡ true
  right_inside [] f = absurd cc
  right_inside (y ∷ d) f =
      let s = and_parts (int_le r.lo y && int_le y r.hi) (is_inside (bounds_of right) d) f in
      let t = and_parts (int_le r.lo y) (int_le y r.hi) s.0 in
      let n : ℤ = y +ℤ ((l.hi +ℤ pos 1) -ℤ r.lo) in
      let up = from_next l.hi r.lo y (le_from_test r.lo y t.0) in
      and_both _ _ (and_both _ _ (le_test l.lo n (above_low l.lo l.hi n can.0 up)) (le_test n (with_high l (l.hi +ℤ pos (length_of r))).hi
      (is_below n (l.hi +ℤ pos (length_of r)) (with_high l (l.hi +ℤ pos (length_of r))).hi (up_to_last l.hi r.lo r.hi y can.1 (le_from_test y r.hi t.1)) can.2)))
      (ap (λ (b : Bounds). is_inside b d) (sym (bounds_same left right can.3)) ∙ s.1)

  all_before_right : (c : Coordinate) (rows : List Row) → is_inside (bounds_of (l ∷ left)) c ≡ true → AllByRecursion (λ row. is_inside (bounds_of (r ∷ right)) row.at.items ≡ true) rows → IsBefore c (map (moved (along ((l.hi +ℤ pos 1) -ℤ r.lo))) rows)
  unfolding by before
  all_before_right c [] e a = tt
  all_before_right c (row ∷ rows) e a = (before c row.at.items e a.0, all_before_right c rows e a.1)

  pub left_before_right : (ls rs : List Row) → AllByRecursion (λ row. is_inside (bounds_of (l ∷ left)) row.at.items ≡ true) ls → AllByRecursion (λ row. is_inside (bounds_of (r ∷ right)) row.at.items ≡ true) rs
      → AllByRecursion (λ row. IsBefore row.at.items (map (moved (along ((l.hi +ℤ pos 1) -ℤ r.lo))) rs)) ls
  left_before_right ls rs a b = all-follows (λ (row : Row). is_inside (bounds_of (l ∷ left)) row.at.items ≡ true) (λ row. IsBefore row.at.items (map (moved (along ((l.hi +ℤ pos 1) -ℤ r.lo))) rs)) (λ row e. all_before_right row.at.items rs e b) ls a

all_along : (P Q : Row → Type 0) (by : ℤ) → ((row : Row) → P row → Q (moved (along by) row)) → (rows : List Row) → AllByRecursion P rows → AllByRecursion Q (map (moved (along by)) rows)
all_along P Q by f rows a = all-map Q (moved (along by)) rows (all-follows P (λ row. Q (moved (along by) row)) f rows a)

-- the rows of both, one behind the other, by their dimensions
pub both_are_rows : (left right : List Dimension) (l r : List Row) → CanFollow left right → IsRising l → AllByRecursion (λ row. is_inside (bounds_of left) row.at.items ≡ true) l
    → IsRising r → AllByRecursion (λ row. is_inside (bounds_of right) row.at.items ≡ true) r → IsRising (concat_rows (step_between left right) l r) × AllByRecursion (λ row. is_inside (bounds_of (lengthened left right)) row.at.items ≡ true) (concat_rows (step_between left right) l r)
both_are_rows [] right l r can rl a rr b = absurd can
both_are_rows (d ∷ left) [] l r can rl a rr b = absurd can
both_are_rows (d ∷ left) (e ∷ right) l r can rl a rr b = (
  append_rises l (map (moved (along ((d.hi +ℤ pos 1) -ℤ e.lo))) r) rl (along_rises ((d.hi +ℤ pos 1) -ℤ e.lo) r rr) (left_before_right d e left right can l r a b),
  all-append (λ row. is_inside (bounds_of (with_high d (d.hi +ℤ pos (length_of e)) ∷ left)) row.at.items ≡ true) l (map (moved (along ((d.hi +ℤ pos 1) -ℤ e.lo))) r)
      (all-follows (λ (row : Row). is_inside (bounds_of (d ∷ left)) row.at.items ≡ true) (λ row. is_inside (bounds_of (with_high d (d.hi +ℤ pos (length_of e)) ∷ left)) row.at.items ≡ true) (λ row i. left_inside d e left right can row.at.items i) l a)
      (all_along (λ row. is_inside (bounds_of (e ∷ right)) row.at.items ≡ true) (λ row. is_inside (bounds_of (with_high d (d.hi +ℤ pos (length_of e)) ∷ left)) row.at.items ≡ true) ((d.hi +ℤ pos 1) -ℤ e.lo) (λ row i. right_inside d e left right can row.at.items i) r b),
)

pub concats_are_arrays : ConcatsAreArrays
concats_are_arrays left right l r valid kinds can p q =
    let both = both_are_rows left.dimensions right.dimensions l r can p.are_rows.rising p.are_rows.in_bounds q.are_rows.rising q.are_rows.in_bounds in
    let by : ℤ = step_between left.dimensions right.dimensions in
    let attributes = by_pairs either_of left.attributes right.attributes in
    record {
      valid = valid;
      are_rows = record { rising = both.0; in_bounds = both.1 };
      kinds = all-append (λ row. IsCellOf attributes row.cell) l (map (moved (along by)) r)
          (all-follows (λ (row : Row). IsCellOf left.attributes row.cell) (λ row. IsCellOf attributes row.cell) (λ row k. left_cell left.attributes right.attributes row.cell kinds k) l p.kinds)
          (all_along (λ row. IsCellOf right.attributes row.cell) (λ row. IsCellOf attributes row.cell) by (λ row k. right_cell left.attributes right.attributes row.cell kinds k) r q.kinds);
    }
