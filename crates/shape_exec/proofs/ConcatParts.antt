-- Cells moved along the first dimension, behind those of another array.
use Rattle.std.proofs.Common.{IsTrue, ◌≡◌, ℕ, ◌-◌, ◌^◌, ◌≤◌, ℤ, pos, negsuc, ◌+ℤ◌, ◌-ℤ◌, ◌≤ℤ◌, Bool, true, false, cond, ◌&&◌, List, [], ◌∷◌, ◌++◌, map, min, None, Result, Ok, refl, sym, ap, ◌∙◌, subst, arith}
use Rattle.std.proofs.lemmas.Int.{ints}
use Rattle.std.specs.Int.{w64, saturate_signed}
use Rattle.std.specs.List.{AllByRecursion}
use Rattle.std.specs.Prelude.{IfOk, int_le}
use Rattle.arrayvec.specs.ArrayVec.{ArrayVec}
use Rattle.cell_values.specs.declared.datum.Row.{Row}
use Rattle.cell_values.specs.declared.memory.Memory.{Memory}
use Rattle.cell_values.specs.declared.schema.Bounds.{Bounds}
use Rattle.cell_values.specs.declared.schema.Dimension.{Dimension}
use Rattle.cell_values.specs.declared.schema.Schema.{Schema}
use Rattle.cell_values.specs.Schemas.{IsValid}
use Rattle.array_rows.specs.Arrays.{AreRowsOf}
use Rattle.array_rows.specs.Boxes.{bounds_of, is_between, is_inside, moved, within}
use Rattle.array_rows.specs.Rows.{Coordinate}
use Rattle.array_geom.specs.declared.chunk.ChunkedArray.{ChunkedArray}
use Rattle.array_geom.specs.Geometry.{ChunkNumber, chunk_of}
use Rattle.array_geom.specs.Inner.Ranges.{AreNear}
use Rattle.array_geom.specs.Link.{Is, is_listed}
use Rattle.array_geom.proofs.NearLemmas.{valid_placed}
use Rattle.array_geom.proofs.TestLaws.{and_both, and_parts, le_test, le_from_test}
use Rattle.array_parts.specs.Cores.{HaveCells, cores_of, meant_by_cores}
use Rattle.array_parts.proofs.CoreLaws.{cores_are_rows}
use Rattle.chunk_cells.specs.Inner.Numbers.{numbers_in}
use Rattle.logical_plan.proofs.BuiltRows.{all-append, all-map}
use Rattle.shape_rows.specs.Laws.{CanFollow, SameKinds}
use Rattle.logical_plan.specs.ShapeMeant.{concat_meant}
use Rattle.logical_plan.specs.ShapeSchemas.{concat_schema, lengthened}
use Rattle.logical_plan.specs.Shapes.{along, concat_rows, step_between}
use Rattle.exec_box.proofs.ArraysMadeLaws.{stands_for}
use Rattle.logical_plan.specs.Typing.{can_follow, concatenates, same_kinds}
use Rattle.shape_rows.proofs.TypedLaws.{follows, kinds_are_same}
use Rattle.shape_exec.proofs.PairMeant.{both_whole}
use Rattle.shape_rows.proofs.PairLaws.{concats_are_arrays, left_inside, right_inside}
use Rattle.shape_exec.specs.Inner.Added.{step_of, CanConcat, IsMove, back_along, forth_along, turned_back}
use Rattle.shape_exec.proofs.PairParts.{more_listed}
use Rattle.shape_exec.proofs.TurnLaws.{saturated_above, saturated_below}

exact : (z : ℤ) → negsuc (2 ^ 62) ≤ℤ z → z ≤ℤ pos (2 ^ 62) → saturate_signed w64 z ≡ z
exact (pos n) low high = let few : n ≤ 2 ^ 63 - 1 = omega (arith, ints) in let same : min n (2 ^ 63 - 1) ≡ n = omega arith in ap pos same
exact (negsuc n) low high = let few : n ≤ 2 ^ 63 - 1 = omega (arith, ints) in let same : min n (2 ^ 63 - 1) ≡ n = omega arith in ap negsuc same

few_low : (l x : ℤ) → negsuc (2 ^ 62 - 2) ≤ℤ l → l ≤ℤ x → negsuc (2 ^ 62) ≤ℤ x
few_low l x a b = omega (arith, ints)

few_high : (h x : ℤ) → h ≤ℤ pos (2 ^ 62 - 1) → x ≤ℤ h → x ≤ℤ pos (2 ^ 62)
few_high h x a b = omega (arith, ints)

-- within the bounds no number is cut off
pub forth_exact : (target : List Dimension) (by : ℤ) (c : Coordinate) → AreNear target → is_inside (bounds_of target) (along by c) ≡ true → forth_along by c ≡ along by c
forth_exact target by [] near e = refl
forth_exact [] by (x ∷ c) near e = absurd cc
forth_exact (d ∷ target) by (x ∷ c) near e =
    let p = and_parts (int_le d.lo (x +ℤ by) && int_le (x +ℤ by) d.hi) (is_inside (bounds_of target) c) e in
    let q = and_parts (int_le d.lo (x +ℤ by)) (int_le (x +ℤ by) d.hi) p.0 in
    ap (λ (z : ℤ). z ∷ c) (exact (x +ℤ by) (few_low d.lo (x +ℤ by) near.0.low (le_from_test d.lo (x +ℤ by) q.0)) (few_high d.hi (x +ℤ by) near.0.high (le_from_test (x +ℤ by) d.hi q.1)))

less_both : (a b n : ℤ) → a ≤ℤ b → (a -ℤ n) ≤ℤ (b -ℤ n)
less_both a b n h = omega (arith, ints)

pub back_box : (dims : List Dimension) (by : ℤ) (lo hi y : Coordinate) → AreNear dims → is_between lo hi y ≡ true → is_inside (bounds_of dims) (turned_back by y) ≡ true → is_between (back_along by lo) (back_along by hi) (turned_back by y) ≡ true
back_box dims by [] [] [] near a s = refl
back_box dims by [] [] (x ∷ y) near a s = absurd cc
back_box dims by [] (h ∷ hi) y near a s = absurd cc
back_box dims by (l ∷ lo) [] y near a s = absurd cc
back_box dims by (l ∷ lo) (h ∷ hi) [] near a s = absurd cc
back_box [] by (l ∷ lo) (h ∷ hi) (x ∷ y) near a s = absurd cc
back_box (d ∷ dims) by (l ∷ lo) (h ∷ hi) (x ∷ y) near a s =
    let r = and_parts (int_le l x && int_le x h) (is_between lo hi y) a in
    let t = and_parts (int_le l x) (int_le x h) r.0 in
    let p = and_parts (int_le d.lo (x -ℤ by) && int_le (x -ℤ by) d.hi) (is_inside (bounds_of dims) y) s in
    let q = and_parts (int_le d.lo (x -ℤ by)) (int_le (x -ℤ by) d.hi) p.0 in
    let low = saturated_below (l -ℤ by) (x -ℤ by) (few_low d.lo (x -ℤ by) near.0.low (le_from_test d.lo (x -ℤ by) q.0)) (less_both l x by (le_from_test l x t.0)) in
    let high = saturated_above (h -ℤ by) (x -ℤ by) (few_high d.hi (x -ℤ by) near.0.high (le_from_test (x -ℤ by) d.hi q.1)) (less_both x h by (le_from_test x h t.1)) in
    and_both _ _ (and_both _ _ (le_test (saturate_signed w64 (l -ℤ by)) (x -ℤ by) low) (le_test (x -ℤ by) (saturate_signed w64 (h -ℤ by)) high)) r.1

-- ---- the move

there_again : (x n : ℤ) → ((x +ℤ n) -ℤ n) ≡ x
there_again x n = omega (arith, ints)

back_again : (x n : ℤ) → ((x -ℤ n) +ℤ n) ≡ x
back_again x n = omega (arith, ints)

pub turned_along : (by : ℤ) (c : Coordinate) → turned_back by (along by c) ≡ c
turned_along by [] = refl
turned_along by (x ∷ c) = ap (λ (z : ℤ). z ∷ c) (there_again x by)

pub along_turned : (by : ℤ) (c : Coordinate) → along by (turned_back by c) ≡ c
along_turned by [] = refl
along_turned by (x ∷ c) = ap (λ (z : ℤ). z ∷ c) (back_again x by)

right_comes : (left right : List Dimension) → CanFollow left right → (c : Coordinate) → is_inside (bounds_of right) c ≡ true → is_inside (bounds_of (lengthened left right)) (along (step_between left right) c) ≡ true
right_comes [] right can c i = absurd can
right_comes (l ∷ left) [] can c i = absurd can
right_comes (l ∷ left) (r ∷ right) can c i = right_inside l r left right can c i

left_comes : (left right : List Dimension) → CanFollow left right → (c : Coordinate) → is_inside (bounds_of left) c ≡ true → is_inside (bounds_of (lengthened left right)) c ≡ true
left_comes [] right can c i = absurd can
left_comes (l ∷ left) [] can c i = absurd can
left_comes (l ∷ left) (r ∷ right) can c i = left_inside l r left right can c i

module _ (by : ℤ) (left right target : Schema) (can : CanConcat by left right target) where
  pub follow_comes : (c : Coordinate) → is_inside (bounds_of right.dimensions) c ≡ true → is_inside (bounds_of target.dimensions) (along by c) ≡ true
  follow_comes c i =
      (λ j. is_inside (bounds_of (can.schema j).dimensions) (along (can.steps j) c)) ∙ right_comes left.dimensions right.dimensions can.follows c i

  pub stay_comes : (c : Coordinate) → is_inside (bounds_of left.dimensions) c ≡ true → is_inside (bounds_of target.dimensions) c ≡ true
  stay_comes c i = (λ j. is_inside (bounds_of (can.schema j).dimensions) c) ∙ left_comes left.dimensions right.dimensions can.follows c i

  pub follow_move : IsMove right.dimensions target.dimensions (along by) (turned_back by)
  follow_move = record { comes = follow_comes; there = λ c i. turned_along by c; again = λ y i. along_turned by y }

  pub follow_exact : (c : Coordinate) → is_inside (bounds_of right.dimensions) c ≡ true → forth_along by c ≡ along by c
  follow_exact c i = forth_exact target.dimensions by c (valid_placed target can.valid).near (follow_comes c i)

  pub follow_back : (area : Bounds) (lo hi : List ℤ) → lo ≡ back_along by area.lo.items → hi ≡ back_along by area.hi.items → (y : Coordinate) → is_inside (bounds_of target.dimensions) y ≡ true → is_inside area y ≡ true
      → is_inside (bounds_of right.dimensions) (turned_back by y) ≡ true → is_between lo hi (turned_back by y) ≡ true
  follow_back area lo hi e f y t a s = (λ j. is_between (e j) (f j) (turned_back by y)) ∙ back_box right.dimensions by area.lo.items area.hi.items y (valid_placed right can.right_valid).near a s

-- ---- rows in a box

pub within_append : (area : Bounds) (a b : List Row) → within area (a ++ b) ≡ within area a ++ within area b
within_append area [] b = refl
within_append area (row ∷ a) b = cases (is_inside area row.at.items) (within_append area a b)
  where
    cases : (t : Bool) → within area (a ++ b) ≡ within area a ++ within area b → cond t (row ∷ within area (a ++ b)) (within area (a ++ b)) ≡ cond t (row ∷ within area a) (within area a) ++ within area b
    cases true e = ap (λ (rs : List Row). row ∷ rs) e
    cases false e = e

-- rows beside the box from which those of another come need not be moved
near_enough : (area near : Bounds) (f : Coordinate → Coordinate) (rows : List Row) → AllByRecursion (λ row. is_inside area (f row.at.items) ≡ true → is_inside near row.at.items ≡ true) rows → within area (map (moved f) (within near rows)) ≡ within area (map (moved f) rows)
near_enough area near f [] a = refl
near_enough area near f (row ∷ rows) a = cases (is_inside near row.at.items) (is_inside area (f row.at.items)) refl refl (near_enough area near f rows a.1)
  where
    left : List Row
    left = within area (map (moved f) (within near rows))

    cases : (t s : Bool) → is_inside near row.at.items ≡ t → is_inside area (f row.at.items) ≡ s → left ≡ within area (map (moved f) rows)
        → within area (map (moved f) (cond t (row ∷ within near rows) (within near rows))) ≡ cond (is_inside area (f row.at.items)) (moved f row ∷ within area (map (moved f) rows)) (within area (map (moved f) rows))
    cases true s t e r = ap (λ (rs : List Row). cond (is_inside area (f row.at.items)) (moved f row ∷ rs) rs) r
    cases false false t e r = r ∙ sym (ap (λ (b : Bool). cond b (moved f row ∷ within area (map (moved f) rows)) (within area (map (moved f) rows))) e)
    cases false true t e r = let yes : is_inside near row.at.items ≡ true = a.0 e in absurd cc

pub follow_rows : (by : ℤ) (left right target : Schema) (can : CanConcat by left right target) (array : ChunkedArray) (area near : Bounds) (from made kept : List Row) → HaveCells array.schema array.margins.items array.chunks → right ≡ array.schema
    → ((y : Coordinate) → is_inside (bounds_of target.dimensions) y ≡ true → is_inside area y ≡ true → is_inside (bounds_of right.dimensions) (turned_back by y) ≡ true → is_inside near (turned_back by y) ≡ true)
    → from ≡ within near (cores_of array) → made ≡ map (moved (along by)) from → kept ≡ within area made → kept ≡ within area (map (moved (along by)) (cores_of array))
follow_rows by left right target can array area near from made kept cells e comes f m k =
    k ∙ ap (within area) (m ∙ ap (map (moved (along by))) f) ∙ near_enough area near (along by) (cores_of array) (each (cores_of array) inside)
  where
    inside : AllByRecursion (λ row. is_inside (bounds_of right.dimensions) row.at.items ≡ true) (cores_of array)
    inside = subst (λ (s : Schema). AllByRecursion (λ row. is_inside (bounds_of s.dimensions) row.at.items ≡ true) (cores_of array)) (sym e) (cores_are_rows array.schema array.margins.items array.chunks cells).are_rows.in_bounds

    each : (rows : List Row) → AllByRecursion (λ row. is_inside (bounds_of right.dimensions) row.at.items ≡ true) rows → AllByRecursion (λ row. is_inside area (along by row.at.items) ≡ true → is_inside near row.at.items ≡ true) rows
    each [] i = tt
    each (row ∷ rows) i = (
      λ a. let back = turned_along by row.at.items in
          ap (is_inside near) (sym back) ∙ comes (along by row.at.items) (follow_comes by left right target can row.at.items i.0) a (ap (is_inside (bounds_of right.dimensions)) back ∙ i.0),
      each rows i.1,
    )

pub both_within : (area : Bounds) (l r first second : List Row) → first ≡ within area l → second ≡ within area r → (rows : List Row) → rows ≡ first ++ second → rows ≡ within area (l ++ r)
both_within area l r first second e f rows m = m ∙ (λ i. e i ++ f i) ∙ sym (within_append area l r)

-- ---- all of both

pub concat_are_rows : (by : ℤ) (left right : ChunkedArray) (target : Schema) → CanConcat by left.schema right.schema target → SameKinds left.schema.attributes right.schema.attributes
    → HaveCells left.schema left.margins.items left.chunks → HaveCells right.schema right.margins.items right.chunks → AreRowsOf target (concat_rows by (cores_of left) (cores_of right))
concat_are_rows by left right target can kinds p q =
    subst (λ (s : Schema). AreRowsOf s (concat_rows by (cores_of left) (cores_of right))) (sym can.schema)
    (subst (λ (n : ℤ). AreRowsOf (concat_schema left.schema right.schema) (concat_rows n (cores_of left) (cores_of right))) (sym can.steps)
    (concats_are_arrays left.schema right.schema (cores_of left) (cores_of right) (subst IsValid can.schema can.valid) kinds can.follows (cores_are_rows left.schema left.margins.items left.chunks p) (cores_are_rows right.schema right.margins.items right.chunks q)))

pub concat_listed : (dims : List Dimension) (by : ℤ) (l r : List Row) (of_left of_right all : List (ArrayVec ℕ)) → ((k : ChunkNumber) → is_listed k (numbers_in of_left) ≡ true → is_listed k (numbers_in all) ≡ true)
    → ((k : ChunkNumber) → is_listed k (numbers_in of_right) ≡ true → is_listed k (numbers_in all) ≡ true) → AllByRecursion (λ row. is_listed (chunk_of dims row.at.items) (numbers_in of_left) ≡ true) l
    → AllByRecursion (λ row. is_listed (chunk_of dims (along by row.at.items)) (numbers_in of_right) ≡ true) r → AllByRecursion (λ row. is_listed (chunk_of dims row.at.items) (numbers_in all) ≡ true) (concat_rows by l r)
concat_listed dims by l r of_left of_right all left right a b =
    all-append (λ row. is_listed (chunk_of dims row.at.items) (numbers_in all) ≡ true) l (map (moved (along by)) r) (more_listed dims (λ c. c) of_left all l left a)
    (all-map (λ row. is_listed (chunk_of dims row.at.items) (numbers_in all) ≡ true) (moved (along by)) r (more_listed dims (along by) of_right all r right b))

-- ---- what the rules of typing say

pub follow_kinds : (left right : Schema) → IsTrue (concatenates left right) → SameKinds left.attributes right.attributes
follow_kinds left right t = kinds_are_same left.attributes right.attributes (and_parts (can_follow left.dimensions right.dimensions) (same_kinds left.attributes right.attributes) t).1

pub typed_concat : (left right : ChunkedArray) (target : Schema) → HaveCells left.schema left.margins.items left.chunks → HaveCells right.schema right.margins.items right.chunks → IsTrue (concatenates left.schema right.schema)
    → target ≡ concat_schema left.schema right.schema → IsValid target → CanConcat (step_of left.schema right.schema) left.schema right.schema target
typed_concat left right target p q t e valid =
    record {
      valid = valid;
      left_valid = p.placed.valid;
      right_valid = q.placed.valid;
      schema = e;
      follows = follows left.schema.dimensions right.schema.dimensions (valid_placed left.schema p.placed.valid).near (valid_placed right.schema q.placed.valid).near
          (and_parts (can_follow left.schema.dimensions right.schema.dimensions) (same_kinds left.schema.attributes right.schema.attributes) t).0;
      steps = refl;
    }

pub concat_made : (left right : ChunkedArray) (target : Schema) (made : Result ChunkedArray Memory) → left.broken ≡ None → right.broken ≡ None → target ≡ concat_schema left.schema right.schema
    → IfOk made (λ m. Is m (record { schema = target; rows = Ok (concat_rows (step_of left.schema right.schema) (cores_of left) (cores_of right)) })) → IfOk made (λ m. Is m (concat_meant (meant_by_cores left) (meant_by_cores right)))
concat_made left right target made p q e is =
    let by = step_of left.schema right.schema in
    stands_for made _ _ (both_whole (concat_rows by) (concat_schema left.schema right.schema) target left right (concat_rows by (cores_of left) (cores_of right)) e p q refl) is

pub stay_within : (by : ℤ) (left right target : Schema) → CanConcat by left right target → (here : Schema) → left ≡ here → (c : Coordinate) → is_inside (bounds_of here.dimensions) c ≡ true → is_inside (bounds_of target.dimensions) c ≡ true
stay_within by left right target can here e c i = stay_comes by left right target can c (ap (λ (s : Schema). is_inside (bounds_of s.dimensions) c) e ∙ i)
