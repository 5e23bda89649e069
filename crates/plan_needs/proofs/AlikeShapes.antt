-- What operators that give cells other coordinates, and that put two arrays into one, need of their sources.
use Rattle.std.proofs.Common.{◌≡◌, ℕ, suc, ◌-◌, ◌/◌, ◌≤◌, ◌<◌, ◌^◌, ℤ, pos, negsuc, ◌+ℤ◌, ◌-ℤ◌, ◌≤ℤ◌, Bool, true, false, cond, List, [], ◌∷◌, ◌++◌, map, reverse, length, Option, None, Result, Ok, Err, refl, sym, ap, ◌∙◌, subst, arith}
use Rattle.std.proofs.lemmas.Bool.{false≢true}
use Rattle.std.proofs.lemmas.Int.{ints, clamps}
use Rattle.std.proofs.lemmas.List.{reverse-reverse, length-map}
use Rattle.std.proofs.lemmas.List.Elements.{filter-append}
use Rattle.std.proofs.lemmas.Nat.{le-div}
use Rattle.std.proofs.Math.Nat.{div-mul-le_self}
use Rattle.std.specs.Int.{int_max, int_min, w64, saturate_signed}
use Rattle.std.specs.List.{AllByRecursion}
use Rattle.std.specs.Prelude.{IfOk, unsigned_abs}
use Rattle.cell_values.specs.declared.datum.Broken.{Broken}
use Rattle.cell_values.specs.declared.datum.Cell.{Cell}
use Rattle.cell_values.specs.declared.datum.Row.{Row}
use Rattle.cell_values.specs.declared.schema.Bounds.{Bounds}
use Rattle.cell_values.specs.declared.schema.Dimension.{Dimension}
use Rattle.cell_values.specs.declared.schema.Schema.{Schema}
use Rattle.array_rows.specs.Arrays.{Meant}
use Rattle.array_rows.specs.Boxes.{bounds_of, by_pairs, is_between, is_inside, moved, within}
use Rattle.array_rows.specs.Rows.{Coordinate, in_order}
use Rattle.array_rows.proofs.RowSets.{IsRising-in_order, IsRising-rows_where, cell_at-in_order, cell_at-within}
use Rattle.array_rows.proofs.RowsLemmas.{same_rows}
use Rattle.array_geom.specs.Inner.Ranges.{IsNear, AreNear}
use Rattle.logical_plan.specs.Faults.{if_whole, and_then}
use Rattle.logical_plan.specs.Shapes.{along, backwards, blocks_back, concat_rows, merge_rows, mirrored, opposite, place_of, reverse_rows, step_between, transpose_rows, xgrid_rows}
use Rattle.logical_plan.specs.ShapeSchemas.{enlarged}
use Rattle.shape_rows.specs.Laws.{AllEnlarge}
use Rattle.shape_rows.specs.Pulls.{ComesFrom, IsPulled}
use Rattle.shape_rows.proofs.BlockLaws.{xgrid_pulled}
use Rattle.shape_rows.proofs.PullLaws.{alike_pulled, between_reverse, inside_backwards, inside_mirrored, map_reverse, mirrored_again, moved_pulled, pulled_in}
use Rattle.plan_needs.specs.declared.stretch.Stretch.{Stretch}
use Rattle.plan_needs.specs.ShapeSides.{first_back, mirror, of_behind, of_front, of_reverse, of_transpose, of_xgrid, sources, step_back}
use Rattle.plan_needs.specs.Sides.{Sides, box_of, whole}
use Rattle.plan_needs.specs.Stretches.{all_of, shared}
use Rattle.plan_needs.proofs.AlikeBlocks.{both_above, both_below}
use Rattle.plan_needs.proofs.AlikeParts.{sat_high, sat_low}
use Rattle.plan_needs.proofs.BoxLaws.{length-by_pairs}
use Rattle.plan_needs.proofs.EmptyBoxes.{needed_inside, length-unless_nothing}
use Rattle.plan_needs.proofs.Inside.{AreInside, sat_same, side_parts, side_from}

-- ---- results whose cells are pulled from one source

abbrev told : List Row → Result (List Row) Broken
told rows = Ok rows

same_ok : (a b : List Row) → told a ≡ told b → a ≡ b
same_ok a b e = cc

pulled_alike : (source target area near : Bounds) (back : Coordinate → Coordinate) (operator : List Row → List Row) → ComesFrom target source back area near
    → ((rows : List Row) → AllByRecursion (λ row. is_inside source row.at.items ≡ true) rows → IsPulled target back rows (operator rows)) → (x y : Result (List Row) Broken)
    → IfOk x (AllByRecursion (λ row. is_inside source row.at.items ≡ true)) → IfOk y (AllByRecursion (λ row. is_inside source row.at.items ≡ true)) → if_whole (within near) x ≡ if_whole (within near) y
    → if_whole (within area) (if_whole operator x) ≡ if_whole (within area) (if_whole operator y)
pulled_alike source target area near back operator comes pulled (Ok a) (Ok b) p q e =
    ap (λ (rows : List Row). Ok rows)
    (alike_pulled target source area near back comes a b (operator a) (operator b) p q (pulled_in target area back a (operator a) (pulled a p)) (pulled_in target area back b (operator b) (pulled b q)) (same_ok (within near a) (within near b) e))
pulled_alike source target area near back operator comes pulled (Ok a) (Err f) p q e = absurd cc
pulled_alike source target area near back operator comes pulled (Err f) (Ok b) p q e = absurd cc
pulled_alike source target area near back operator comes pulled (Err f) (Err g) p q e = let same : f ≡ g = cc in ap (λ (b : Broken). Err b) same

-- ---- transpose

pub alike_transposed : (dims : List Dimension) (sides : Sides) (x y : Result (List Row) Broken) → IfOk x (AreInside dims) → IfOk y (AreInside dims) → if_whole (within (box_of (of_transpose sides))) x ≡ if_whole (within (box_of (of_transpose sides))) y
    → if_whole (within (box_of sides)) (if_whole transpose_rows x) ≡ if_whole (within (box_of sides)) (if_whole transpose_rows y)
alike_transposed dims sides x y p q e =
    pulled_alike (bounds_of dims) (bounds_of (reverse dims)) (box_of sides) (box_of (reverse sides)) backwards transpose_rows
    (λ c t a s.
    (λ i. is_between (map_reverse (λ (z : Stretch). z.first) sides i) (map_reverse (λ (z : Stretch). z.last) sides i) (backwards c))
    ∙ between_reverse (map (λ (z : Stretch). z.first) sides) (map (λ (z : Stretch). z.last) sides) c a)
    (λ rows inside. moved_pulled (bounds_of dims) (bounds_of (reverse dims)) backwards backwards (inside_backwards dims) (λ c i. reverse-reverse c) (λ c i. reverse-reverse c) rows inside)
    x y p q e

-- ---- reverse

fits_low : (lo x : ℤ) → negsuc (2 ^ 62 - 2) ≤ℤ lo → lo ≤ℤ x → negsuc (2 ^ 63 - 1) ≤ℤ x
fits_low lo x a b = omega (arith, ints)

fits_high : (hi x : ℤ) → hi ≤ℤ pos (2 ^ 62 - 1) → x ≤ℤ hi → x ≤ℤ pos (2 ^ 63 - 1)
fits_high hi x a b = omega (arith, ints)

less_from : (n a b : ℤ) → a ≤ℤ b → (n -ℤ b) ≤ℤ (n -ℤ a)
less_from n a b h = omega (arith, ints)

-- within the bounds of valid schemas no sum is beyond 64 bits
mirror_is : (d : Dimension) (x : ℤ) → IsNear d → mirror d x ≡ saturate_signed w64 (opposite d x)
mirror_is d x near = ap (λ (z : ℤ). saturate_signed w64 (z -ℤ x)) (sat_same (d.lo +ℤ d.hi) (sum_low d.lo d.hi near.low near.order) (sum_high d.lo d.hi near.high near.order))
  where
    sum_low : (lo hi : ℤ) → negsuc (2 ^ 62 - 2) ≤ℤ lo → lo ≤ℤ hi → negsuc (2 ^ 63 - 1) ≤ℤ (lo +ℤ hi)
    sum_low lo hi a b = omega (arith, ints)

    sum_high : (lo hi : ℤ) → hi ≤ℤ pos (2 ^ 62 - 1) → lo ≤ℤ hi → (lo +ℤ hi) ≤ℤ pos (2 ^ 63 - 1)
    sum_high lo hi a b = omega (arith, ints)

opposites_box : (dims : List Dimension) (sides : Sides) (y : Coordinate) → AreNear dims → is_inside (box_of sides) y ≡ true → is_inside (bounds_of dims) (mirrored dims y) ≡ true → is_inside (box_of (of_reverse dims sides)) (mirrored dims y) ≡ true
opposites_box [] sides y near a s = refl
opposites_box (d ∷ dims) [] [] near a s = absurd (false≢true s)
opposites_box (d ∷ dims) [] (x ∷ y) near a s = absurd (false≢true a)
opposites_box (d ∷ dims) (side ∷ sides) [] near a s = absurd (false≢true a)
opposites_box (d ∷ dims) (side ∷ sides) (x ∷ y) near a s =
    let r = side_parts side.first side.last x (is_inside (box_of sides) y) a in
    let p = side_parts d.lo d.hi (opposite d x) (is_inside (bounds_of dims) (mirrored dims y)) s in
    side_from (mirror d side.last) (mirror d side.first) (opposite d x) _
    (subst (λ (z : ℤ). z ≤ℤ opposite d x) (sym (mirror_is d side.last near.0)) (sat_low (opposite d side.last) (opposite d x) (less_from (d.lo +ℤ d.hi) x side.last r.1) (fits_low d.lo (opposite d x) near.0.low p.0)))
    (subst (λ (z : ℤ). opposite d x ≤ℤ z) (sym (mirror_is d side.first near.0)) (sat_high (opposite d side.first) (opposite d x) (less_from (d.lo +ℤ d.hi) side.first x r.0) (fits_high d.hi (opposite d x) near.0.high p.1)))
    (opposites_box dims sides y near.1 r.2 p.2)

alike_turned : (dims : List Dimension) (sides : Sides) → AreNear dims → (x y : Result (List Row) Broken) → IfOk x (AreInside dims) → IfOk y (AreInside dims) → if_whole (within (box_of (of_reverse dims sides))) x ≡ if_whole (within (box_of (of_reverse dims sides))) y
    → if_whole (within (box_of sides)) (if_whole (reverse_rows dims) x) ≡ if_whole (within (box_of sides)) (if_whole (reverse_rows dims) y)
alike_turned dims sides near x y p q e =
    pulled_alike (bounds_of dims) (bounds_of dims) (box_of sides) (box_of (of_reverse dims sides)) (mirrored dims) (reverse_rows dims) (λ c t a s. opposites_box dims sides c near a s)
    (λ rows inside. moved_pulled (bounds_of dims) (bounds_of dims) (mirrored dims) (mirrored dims) (inside_mirrored dims) (mirrored_again dims) (mirrored_again dims) rows inside) x y p q e

-- of two arrays of one schema
pub alike_reversed : (schema : Schema) (sides : Sides) → AreNear schema.dimensions → (m n : Meant) → m.schema ≡ schema → n.schema ≡ schema → IfOk m.rows (AreInside schema.dimensions) → IfOk n.rows (AreInside schema.dimensions)
    → if_whole (within (box_of (of_reverse schema.dimensions sides))) m.rows ≡ if_whole (within (box_of (of_reverse schema.dimensions sides))) n.rows
    → if_whole (within (box_of sides)) (if_whole (reverse_rows m.schema.dimensions) m.rows) ≡ if_whole (within (box_of sides)) (if_whole (reverse_rows n.schema.dimensions) n.rows)
alike_reversed schema sides near m n e f p q h =
    ap (λ (s : Schema). if_whole (within (box_of sides)) (if_whole (reverse_rows s.dimensions) m.rows)) e
    ∙ alike_turned schema.dimensions sides near m.rows n.rows p q h
    ∙ ap (λ (s : Schema). if_whole (within (box_of sides)) (if_whole (reverse_rows s.dimensions) n.rows)) (sym f)

-- ---- xgrid

quotient_le : (a b size : ℕ) → 0 < size → a ≤ b → a / size ≤ b / size
quotient_le a b size p h = let m = div-mul-le_self a size in le-div (a / size) b size p (omega (arith, m, h))

place_le : (d : Dimension) (size : ℕ) (x y : ℤ) → 0 < size → d.lo ≤ℤ x → x ≤ℤ y → place_of d size x ≤ℤ place_of d size y
place_le d size x y p a h =
    let less : unsigned_abs (x -ℤ d.lo) ≤ unsigned_abs (y -ℤ d.lo) = omega (arith, ints) in
    below d.lo (unsigned_abs (x -ℤ d.lo) / size) (unsigned_abs (y -ℤ d.lo) / size) (quotient_le (unsigned_abs (x -ℤ d.lo)) (unsigned_abs (y -ℤ d.lo)) size p less)
  where
    below : (lo : ℤ) (m n : ℕ) → m ≤ n → (lo +ℤ pos m) ≤ℤ (lo +ℤ pos n)
    below lo m n g = omega (arith, ints)

at_least : (a b : ℤ) → a ≤ℤ int_max a b
at_least a b = omega (arith, ints, clamps)

sources_box : (dims : List Dimension) (sizes : List ℕ) (sides : Sides) (y : Coordinate) → AreNear dims → AllEnlarge dims sizes → is_inside (bounds_of (by_pairs enlarged dims sizes)) y ≡ true → is_inside (box_of sides) y ≡ true
    → is_inside (bounds_of dims) (blocks_back dims sizes y) ≡ true → is_inside (box_of (by_pairs (λ f s. f s) (by_pairs sources dims sizes) sides)) (blocks_back dims sizes y) ≡ true
sources_box [] [] sides y near en t a s = refl
sources_box [] (size ∷ sizes) sides y near en t a s = absurd en
sources_box (d ∷ dims) [] sides y near en t a s = absurd en
sources_box (d ∷ dims) (size ∷ sizes) sides [] near en t a s = absurd (false≢true t)
sources_box (d ∷ dims) (size ∷ sizes) [] (x ∷ y) near en t a s = absurd (false≢true a)
sources_box (d ∷ dims) (size ∷ sizes) (side ∷ sides) (x ∷ y) near en t a s =
    let k = side_parts d.lo (enlarged d size).hi x (is_inside (bounds_of (by_pairs enlarged dims sizes)) y) t in
    let m = side_parts side.first side.last x (is_inside (box_of sides) y) a in
    let p = side_parts d.lo d.hi (place_of d size x) (is_inside (bounds_of dims) (blocks_back dims sizes y)) s in
    let low : int_max d.lo side.first ≤ℤ x = both_below d.lo side.first x k.0 m.0 in
    let high : x ≤ℤ int_min (enlarged d size).hi side.last = both_above (enlarged d size).hi side.last x k.1 m.1 in
    side_from (saturate_signed w64 (place_of d size (int_max d.lo side.first))) (saturate_signed w64 (place_of d size (int_min (enlarged d size).hi side.last))) (place_of d size x) _
    (sat_low (place_of d size (int_max d.lo side.first)) (place_of d size x) (place_le d size (int_max d.lo side.first) x en.0.0 (at_least d.lo side.first) low) (fits_low d.lo (place_of d size x) near.0.low p.0))
    (sat_high (place_of d size (int_min (enlarged d size).hi side.last)) (place_of d size x) (place_le d size x (int_min (enlarged d size).hi side.last) en.0.0 k.0 high) (fits_high d.hi (place_of d size x) near.0.high p.1))
    (sources_box dims sizes sides y near.1 en.1 k.2 m.2 p.2)

alike_enlarged : (dims : List Dimension) (sizes : List ℕ) (sides : Sides) → AreNear dims → AllEnlarge dims sizes → (x y : Result (List Row) Broken) → IfOk x (AreInside dims) → IfOk y (AreInside dims)
    → if_whole (within (box_of (of_xgrid dims sizes sides))) x ≡ if_whole (within (box_of (of_xgrid dims sizes sides))) y → if_whole (within (box_of sides)) (if_whole (xgrid_rows dims sizes) x) ≡ if_whole (within (box_of sides)) (if_whole (xgrid_rows dims sizes) y)
alike_enlarged dims sizes sides near en x y p q e =
    pulled_alike (bounds_of dims) (bounds_of (by_pairs enlarged dims sizes)) (box_of sides) (box_of (of_xgrid dims sizes sides)) (blocks_back dims sizes) (xgrid_rows dims sizes)
    (λ c t a s. needed_inside sides (by_pairs (λ (f : Stretch → Stretch) (z : Stretch). f z) (by_pairs sources dims sizes) sides) c (blocks_back dims sizes c) a (sources_box dims sizes sides c near en t a s))
    (λ rows inside. xgrid_pulled dims sizes rows en inside) x y p q e

pub alike_xgridded : (schema : Schema) (sizes : List ℕ) (sides : Sides) → AreNear schema.dimensions → AllEnlarge schema.dimensions sizes → (m n : Meant) → m.schema ≡ schema → n.schema ≡ schema → IfOk m.rows (AreInside schema.dimensions) → IfOk n.rows (AreInside schema.dimensions)
    → if_whole (within (box_of (of_xgrid schema.dimensions sizes sides))) m.rows ≡ if_whole (within (box_of (of_xgrid schema.dimensions sizes sides))) n.rows
    → if_whole (within (box_of sides)) (if_whole (xgrid_rows m.schema.dimensions sizes) m.rows) ≡ if_whole (within (box_of sides)) (if_whole (xgrid_rows n.schema.dimensions sizes) n.rows)
alike_xgridded schema sizes sides near en m n e f p q h =
    ap (λ (s : Schema). if_whole (within (box_of sides)) (if_whole (xgrid_rows s.dimensions sizes) m.rows)) e
    ∙ alike_enlarged schema.dimensions sizes sides near en m.rows n.rows p q h
    ∙ ap (λ (s : Schema). if_whole (within (box_of sides)) (if_whole (xgrid_rows s.dimensions sizes) n.rows)) (sym f)

pub length-xgrid : (dims : List Dimension) (sizes : List ℕ) (sides : Sides) → AllEnlarge dims sizes → length sides ≡ length (by_pairs enlarged dims sizes) → length (of_xgrid dims sizes sides) ≡ length dims
length-xgrid dims sizes sides en e = length-unless_nothing _ (by_pairs (λ (f : Stretch → Stretch) (z : Stretch). f z) (by_pairs sources dims sizes) sides) ∙ each dims sizes sides en e
  where
    each : (ds : List Dimension) (ns : List ℕ) (ss : Sides) → AllEnlarge ds ns → length ss ≡ length (by_pairs enlarged ds ns) → length (by_pairs (λ (f : Stretch → Stretch) (z : Stretch). f z) (by_pairs sources ds ns) ss) ≡ length ds
    each [] [] ss h f = refl
    each [] (n ∷ ns) ss h f = absurd h
    each (d ∷ ds) [] ss h f = absurd h
    each (d ∷ ds) (n ∷ ns) [] h f = absurd (omega arith)
    each (d ∷ ds) (n ∷ ns) (s ∷ ss) h f = ap suc (each ds ns ss h.1 (omega arith))

-- ---- merge

where_in_order : (area : Bounds) (rows : List Row) → within area (in_order rows) ≡ in_order (within area rows)
where_in_order area rows =
    same_rows (within area (in_order rows)) (in_order (within area rows)) (IsRising-rows_where (is_inside area) (in_order rows) (IsRising-in_order rows)) (IsRising-in_order (within area rows)) (λ c.
    cell_at-within area (in_order rows) c
    ∙ ap (λ (o : Option Cell). cond (is_inside area c) o None) (cell_at-in_order rows c)
    ∙ sym (cell_at-within area rows c)
    ∙ sym (cell_at-in_order (within area rows) c))

merged_within : (area : Bounds) (x y : Result (List Row) Broken)
    → if_whole (within area) (and_then (λ l. if_whole (merge_rows l) y) x) ≡ and_then (λ l. if_whole (merge_rows l) (if_whole (within area) y)) (if_whole (within area) x)
merged_within area (Ok l) (Ok r) = ap (λ (rows : List Row). Ok rows) (where_in_order area (l ++ r) ∙ ap in_order (filter-append (λ (row : Row). is_inside area row.at.items) l r))
merged_within area (Ok l) (Err broken) = refl
merged_within area (Err broken) y = refl

pub alike_merged : (area : Bounds) (x y x' y' : Result (List Row) Broken) → if_whole (within area) x ≡ if_whole (within area) x' → if_whole (within area) y ≡ if_whole (within area) y'
    → if_whole (within area) (and_then (λ l. if_whole (merge_rows l) y) x) ≡ if_whole (within area) (and_then (λ l. if_whole (merge_rows l) y') x')
alike_merged area x y x' y' e f = merged_within area x y ∙ (λ i. and_then (λ l. if_whole (merge_rows l) (f i)) (e i)) ∙ sym (merged_within area x' y')

-- ---- concat

shared_box : (dims : List Dimension) (sides : Sides) (c : Coordinate) → is_inside (bounds_of dims) c ≡ true → is_inside (box_of sides) c ≡ true → is_inside (box_of (by_pairs shared (whole dims) sides)) c ≡ true
shared_box [] [] [] s a = refl
shared_box [] [] (x ∷ c) s a = absurd (false≢true s)
shared_box [] (side ∷ sides) [] s a = refl
shared_box [] (side ∷ sides) (x ∷ c) s a = absurd (false≢true s)
shared_box (d ∷ dims) [] [] s a = absurd (false≢true s)
shared_box (d ∷ dims) [] (x ∷ c) s a = absurd (false≢true a)
shared_box (d ∷ dims) (side ∷ sides) [] s a = absurd (false≢true s)
shared_box (d ∷ dims) (side ∷ sides) (x ∷ c) s a =
    let p = side_parts d.lo d.hi x (is_inside (bounds_of dims) c) s in
    let r = side_parts side.first side.last x (is_inside (box_of sides) c) a in
    side_from (int_max d.lo side.first) (int_min d.hi side.last) x _ (both_below d.lo side.first x p.0 r.0) (both_above d.hi side.last x p.1 r.1) (shared_box dims sides c p.2 r.2)

step_is : (l r : Dimension) (x : ℤ) → IsNear l → IsNear r → step_back l r x ≡ saturate_signed w64 (x -ℤ ((l.hi +ℤ pos 1) -ℤ r.lo))
step_is l r x near near' =
    ap (λ (z : ℤ). saturate_signed w64 (x -ℤ saturate_signed w64 (z +ℤ pos 1))) (sat_same (l.hi -ℤ r.lo) (low_step l.lo l.hi r.lo r.hi near.low near.order near'.order near'.high) (high_step l.hi r.lo near.high near'.low))
    ∙ ap (λ (z : ℤ). saturate_signed w64 (x -ℤ z))
    (sat_same ((l.hi -ℤ r.lo) +ℤ pos 1) (low_next l.lo l.hi r.lo r.hi near.low near.order near'.order near'.high) (high_next l.hi r.lo near.high near'.low) ∙ other_order l.hi r.lo)
  where
    low_step : (a b c e : ℤ) → negsuc (2 ^ 62 - 2) ≤ℤ a → a ≤ℤ b → c ≤ℤ e → e ≤ℤ pos (2 ^ 62 - 1) → negsuc (2 ^ 63 - 1) ≤ℤ (b -ℤ c)
    low_step a b c e f g h i = omega (arith, ints)

    high_step : (b c : ℤ) → b ≤ℤ pos (2 ^ 62 - 1) → negsuc (2 ^ 62 - 2) ≤ℤ c → (b -ℤ c) ≤ℤ pos (2 ^ 63 - 1)
    high_step b c f g = omega (arith, ints)

    low_next : (a b c e : ℤ) → negsuc (2 ^ 62 - 2) ≤ℤ a → a ≤ℤ b → c ≤ℤ e → e ≤ℤ pos (2 ^ 62 - 1) → negsuc (2 ^ 63 - 1) ≤ℤ ((b -ℤ c) +ℤ pos 1)
    low_next a b c e f g h i = omega (arith, ints)

    high_next : (b c : ℤ) → b ≤ℤ pos (2 ^ 62 - 1) → negsuc (2 ^ 62 - 2) ≤ℤ c → ((b -ℤ c) +ℤ pos 1) ≤ℤ pos (2 ^ 63 - 1)
    high_next b c f g = omega (arith, ints)

    other_order : (b c : ℤ) → ((b -ℤ c) +ℤ pos 1) ≡ ((b +ℤ pos 1) -ℤ c)
    other_order b c = omega (arith, ints)

back_box : (left right : List Dimension) → AreNear left → AreNear right → (sides : Sides) (c : Coordinate) → is_inside (bounds_of right) c ≡ true → is_inside (box_of sides) (along (step_between left right) c) ≡ true
    → is_inside (box_of (first_back left right sides)) c ≡ true
back_box left right near near' [] [] s a = refl
back_box left right near near' [] (x ∷ c) s a = absurd (false≢true a)
back_box left right near near' (side ∷ sides) [] s a = absurd (false≢true a)
back_box left [] near near' (side ∷ sides) (x ∷ c) s a = absurd (false≢true s)
back_box [] (r ∷ right) near near' (side ∷ sides) (x ∷ c) s a =
    let p = side_parts side.first side.last (x +ℤ pos 0) (is_inside (box_of sides) c) a in
    side_from side.first side.last x _ (no_step side.first x p.0) (no_step_up side.last x p.1) p.2
  where
    no_step : (f y : ℤ) → f ≤ℤ (y +ℤ pos 0) → f ≤ℤ y
    no_step f y h = omega (arith, ints)

    no_step_up : (f y : ℤ) → (y +ℤ pos 0) ≤ℤ f → y ≤ℤ f
    no_step_up f y h = omega (arith, ints)
back_box (l ∷ left) (r ∷ right) near near' (side ∷ sides) (x ∷ c) s a =
    let by : ℤ = (l.hi +ℤ pos 1) -ℤ r.lo in
    let p = side_parts r.lo r.hi x (is_inside (bounds_of right) c) s in
    let q = side_parts side.first side.last (x +ℤ by) (is_inside (box_of sides) c) a in
    side_from (step_back l r side.first) (step_back l r side.last) x _
    (subst (λ (z : ℤ). z ≤ℤ x) (sym (step_is l r side.first near.0 near'.0)) (sat_low (side.first -ℤ by) x (to_left side.first x by q.0) (fits_low r.lo x near'.0.low p.0)))
    (subst (λ (z : ℤ). x ≤ℤ z) (sym (step_is l r side.last near.0 near'.0)) (sat_high (side.last -ℤ by) x (to_right side.last x by q.1) (fits_high r.hi x near'.0.high p.1))) q.2
  where
    to_left : (f y n : ℤ) → f ≤ℤ (y +ℤ n) → (f -ℤ n) ≤ℤ y
    to_left f y n h = omega (arith, ints)

    to_right : (m y n : ℤ) → (y +ℤ n) ≤ℤ m → y ≤ℤ (m -ℤ n)
    to_right m y n h = omega (arith, ints)

same_moved : (rows : List Row) → map (moved (λ c. c)) rows ≡ rows
same_moved [] = refl
same_moved (row ∷ rows) = ap (λ (rs : List Row). row ∷ rs) (same_moved rows)

-- rows beside the box from which those of another come need not be there
near_enough : (dims : List Dimension) (area near : Bounds) (f : Coordinate → Coordinate) → ((c : Coordinate) → is_inside (bounds_of dims) c ≡ true → is_inside area (f c) ≡ true → is_inside near c ≡ true) → (rows : List Row) → AreInside dims rows
    → within area (map (moved f) rows) ≡ within area (map (moved f) (within near rows))
near_enough dims area near f h [] i = refl
near_enough dims area near f h (row ∷ rows) i = cases (is_inside near row.at.items) (is_inside area (f row.at.items)) refl refl (near_enough dims area near f h rows i.1)
  where
    some : List Row
    some = within area (map (moved f) (within near rows))

    cases : (t s : Bool) → is_inside near row.at.items ≡ t → is_inside area (f row.at.items) ≡ s → within area (map (moved f) rows) ≡ some
        → cond (is_inside area (f row.at.items)) (moved f row ∷ within area (map (moved f) rows)) (within area (map (moved f) rows)) ≡ within area (map (moved f) (cond t (row ∷ within near rows) (within near rows)))
    cases true s t e r = ap (λ (rs : List Row). cond (is_inside area (f row.at.items)) (moved f row ∷ rs) rs) r
    cases false false t e r = ap (λ (b : Bool). cond b (moved f row ∷ within area (map (moved f) rows)) (within area (map (moved f) rows))) e ∙ r
    cases false true t e r = absurd (false≢true (sym t ∙ h row.at.items i.0 e))

-- what the box has of both parts
parts_of : List Dimension → List Dimension → Sides → List Row → List Row → List Row
parts_of left right sides l r = within (box_of sides) (map (moved (λ c. c)) l) ++ within (box_of sides) (map (moved (along (step_between left right))) r)

both_parts : (left right : List Dimension) (sides : Sides) → AreNear left → AreNear right → (l r : List Row) → AreInside left l → AreInside right r
    → within (box_of sides) (concat_rows (step_between left right) l r) ≡ parts_of left right sides (within (box_of (of_front left sides)) l) (within (box_of (of_behind left right sides)) r)
unfolding parts_of
both_parts left right sides near near' l r i j =
    let by : ℤ = step_between left right in
    filter-append (λ (row : Row). is_inside (box_of sides) row.at.items) l (map (moved (along by)) r)
    ∙ ap (λ (rs : List Row). within (box_of sides) rs ++ within (box_of sides) (map (moved (along by)) r)) (sym (same_moved l))
    ∙ ap (λ (rs : List Row). rs ++ within (box_of sides) (map (moved (along by)) r)) (near_enough left (box_of sides) (box_of (of_front left sides)) (λ c. c) (λ c s a. shared_box left sides c s a) l i)
    ∙ ap (λ (rs : List Row). within (box_of sides) (map (moved (λ c. c)) (within (box_of (of_front left sides)) l)) ++ rs)
    (near_enough right (box_of sides) (box_of (of_behind left right sides)) (along by) (λ c s a. shared_box right (first_back left right sides) c s (back_box left right near near' sides c s a)) r j)

both_within : (left right : List Dimension) (sides : Sides) → AreNear left → AreNear right → (x y : Result (List Row) Broken) → IfOk x (AreInside left) → IfOk y (AreInside right)
    → if_whole (within (box_of sides)) (and_then (λ l. if_whole (concat_rows (step_between left right) l) y) x)
    ≡ and_then (λ l. if_whole (parts_of left right sides l) (if_whole (within (box_of (of_behind left right sides))) y)) (if_whole (within (box_of (of_front left sides))) x)
both_within left right sides near near' (Ok l) (Ok r) p q = ap (λ (rows : List Row). Ok rows) (both_parts left right sides near near' l r p q)
both_within left right sides near near' (Ok l) (Err broken) p q = refl
both_within left right sides near near' (Err broken) y p q = refl

alike_both : (left right : List Dimension) (sides : Sides) → AreNear left → AreNear right → (x y x' y' : Result (List Row) Broken) → IfOk x (AreInside left) → IfOk y (AreInside right) → IfOk x' (AreInside left) → IfOk y' (AreInside right)
    → if_whole (within (box_of (of_front left sides))) x ≡ if_whole (within (box_of (of_front left sides))) x' → if_whole (within (box_of (of_behind left right sides))) y ≡ if_whole (within (box_of (of_behind left right sides))) y'
    → if_whole (within (box_of sides)) (and_then (λ l. if_whole (concat_rows (step_between left right) l) y) x) ≡ if_whole (within (box_of sides)) (and_then (λ l. if_whole (concat_rows (step_between left right) l) y') x')
alike_both left right sides near near' x y x' y' p q p' q' e f =
    both_within left right sides near near' x y p q ∙ (λ i. and_then (λ l. if_whole (parts_of left right sides l) (f i)) (e i)) ∙ sym (both_within left right sides near near' x' y' p' q')

pub alike_concat : (a b : Schema) (sides : Sides) → AreNear a.dimensions → AreNear b.dimensions → (m n m' n' : Meant) → m.schema ≡ a → n.schema ≡ b → m'.schema ≡ a → n'.schema ≡ b
    → IfOk m.rows (AreInside a.dimensions) → IfOk n.rows (AreInside b.dimensions) → IfOk m'.rows (AreInside a.dimensions) → IfOk n'.rows (AreInside b.dimensions)
    → if_whole (within (box_of (of_front a.dimensions sides))) m.rows ≡ if_whole (within (box_of (of_front a.dimensions sides))) m'.rows
    → if_whole (within (box_of (of_behind a.dimensions b.dimensions sides))) n.rows ≡ if_whole (within (box_of (of_behind a.dimensions b.dimensions sides))) n'.rows
    → if_whole (within (box_of sides)) (and_then (λ l. if_whole (concat_rows (step_between m.schema.dimensions n.schema.dimensions) l) n.rows) m.rows)
    ≡ if_whole (within (box_of sides)) (and_then (λ l. if_whole (concat_rows (step_between m'.schema.dimensions n'.schema.dimensions) l) n'.rows) m'.rows)
alike_concat a b sides near near' m n m' n' e f e' f' p q p' q' g h =
    (λ i. if_whole (within (box_of sides)) (and_then (λ l. if_whole (concat_rows (step_between (e i).dimensions (f i).dimensions) l) n.rows) m.rows))
    ∙ alike_both a.dimensions b.dimensions sides near near' m.rows n.rows m'.rows n'.rows p q p' q' g h
    ∙ (λ i. if_whole (within (box_of sides)) (and_then (λ l. if_whole (concat_rows (step_between (sym e' i).dimensions (sym f' i).dimensions) l) n'.rows) m'.rows))

length-back : (left right : List Dimension) (sides : Sides) → length (first_back left right sides) ≡ length sides
length-back left right [] = refl
length-back left right (s ∷ sides) = refl

pub length-front : (left : List Dimension) (sides : Sides) → length sides ≡ length left → length (of_front left sides) ≡ length left
length-front left sides e = length-by_pairs shared (whole left) sides (e ∙ sym (length-map left all_of)) ∙ length-map left all_of

pub length-behind : (left right : List Dimension) (sides : Sides) → length sides ≡ length right → length (of_behind left right sides) ≡ length right
length-behind left right sides e =
    length-by_pairs shared (whole right) (first_back left right sides) (length-back left right sides ∙ e ∙ sym (length-map right all_of)) ∙ length-map right all_of
