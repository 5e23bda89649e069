-- What a cross join needs of its two sources.
use Rattle.std.proofs.Common.{◌≡◌, ℕ, zero, suc, ◌+◌, ◌<◌, ◌≤◌, ℤ, pos, Bool, true, false, List, [], ◌∷◌, ◌++◌, map, filter, length, take, drop, cond, Option, Some, Result, Ok, Err, refl, sym, ap, ◌∙◌, subst, length-take, length-drop, arith}
use Rattle.std.specs.Prelude.{◌||◌, ◌==◌, nat_lt, slice_get, slice_index_or, IfOk}
use Rattle.std.specs.List.{AllByRecursion, list_any, list_all, flat_map, find}
use Rattle.std.specs.Option.{option_map, option_and_then}
use Rattle.std.specs.Ordering.{int_eq}
use Rattle.std.proofs.lemmas.Bool.{and_parts, eqb-true, ltb-true}
use Rattle.std.proofs.lemmas.Int.{ints}
use Rattle.std.proofs.lemmas.List.Elements.{filter-append}
use Rattle.cell_values.specs.declared.datum.Broken.{Broken}
use Rattle.cell_values.specs.declared.datum.Row.{Row}
use Rattle.cell_values.specs.declared.schema.Dimension.{Dimension}
use Rattle.array_rows.specs.Boxes.{is_inside, within, bounds_of}
use Rattle.array_rows.specs.Rows.{Coordinate, placed, rows_where}
use Rattle.logical_plan.specs.declared.parts.Pair.{Pair}
use Rattle.logical_plan.specs.BoxOps.{items_but}
use Rattle.logical_plan.specs.Faults.{if_whole, and_then}
use Rattle.logical_plan.specs.Joins.{cell_beside, agree, right_places, cross_at, cross_rows}
use Rattle.logical_plan.specs.Typing.{left_places}
use Rattle.plan_needs.specs.declared.stretch.Stretch.{Stretch}
use Rattle.plan_needs.specs.Sides.{Sides, box_of, of_left, of_right, paired_with}
use Rattle.plan_needs.proofs.AlikeParts.{Holds, is_there, filled_inside, given_hold, length-filled}
use Rattle.plan_needs.proofs.AlikeSteps.{needless_of}
use Rattle.plan_needs.proofs.AlikeWindows.{bounds_length}
use Rattle.plan_needs.proofs.Inside.{AreInside, Inside, side_parts, side_from}

-- ---- a box of two coordinates side by side

split_box : (sides : Sides) (c e : Coordinate) → is_inside (box_of sides) (c ++ e) ≡ true → (is_inside (box_of (take (length c) sides)) c ≡ true) × (is_inside (box_of (drop (length c) sides)) e ≡ true)
split_box sides [] e h = (refl, h)
split_box [] (x ∷ c) e h = absurd cc
split_box (s ∷ sides) (x ∷ c) e h =
    let p = side_parts s.first s.last x (is_inside (box_of sides) (c ++ e)) h in
    let q = split_box sides c e p.2 in
    (side_from s.first s.last x _ p.0 p.1 q.0, q.1)

-- a number of a coordinate in a box lies in its side
side_holds : (sides : Sides) (c : Coordinate) (j : ℕ) → is_inside (box_of sides) c ≡ true → Holds (slice_get sides j) (slice_index_or c j (pos 0))
side_holds [] c j h = tt
side_holds (s ∷ sides) [] j h = absurd cc
side_holds (s ∷ sides) (x ∷ c) zero h = let p = side_parts s.first s.last x (is_inside (box_of sides) c) h in (p.0, p.1)
side_holds (s ∷ sides) (x ∷ c) (suc j) h = side_holds sides c j (side_parts s.first s.last x (is_inside (box_of sides) c) h).2

first_sides : (sides : Sides) (m j : ℕ) → j < m → slice_get (take m sides) j ≡ slice_get sides j
first_sides sides zero j l = absurd (omega arith)
first_sides [] (suc m) j l = refl
first_sides (s ∷ sides) (suc m) zero l = refl
first_sides (s ∷ sides) (suc m) (suc j) l = first_sides sides m j (omega arith)

-- so it lies in the side of all sides
first_holds : (sides : Sides) (c : Coordinate) (j : ℕ) → is_inside (box_of (take (length c) sides)) c ≡ true → j < length c → Holds (slice_get sides j) (slice_index_or c j (pos 0))
first_holds sides c j h l = subst (λ (o : Option Stretch). Holds o (slice_index_or c j (pos 0))) (first_sides sides (length c) j l) (side_holds (take (length c) sides) c j h)

-- ---- what is given for the right dimensions

side_there : (sides : Sides) (j : ℕ) → j < length sides → is_there (slice_get sides j) ≡ true
side_there [] j l = absurd (omega arith)
side_there (s ∷ sides) zero l = refl
side_there (s ∷ sides) (suc j) l = side_there sides j (omega arith)

paired_there : (pairs : List Pair) (sides : Sides) (m : ℕ) → m ≤ length sides → list_all (λ place. nat_lt place m) (left_places pairs) ≡ true → (k : ℕ) → list_any (λ p. p == k) (right_places pairs) ≡ is_there (paired_with pairs sides k)
paired_there [] sides m l low k = refl
paired_there (p ∷ pairs) sides m l low k =
    let q = and_parts (nat_lt p.left m) (list_all (λ place. nat_lt place m) (left_places pairs)) low in
    let below : p.left < m = ltb-true p.left m q.0 in
    by_test (p.right == k) (side_there sides p.left (omega arith)) (paired_there pairs sides m l q.1 k)
  where
    by_test : (b : Bool) → is_there (slice_get sides p.left) ≡ true
        → list_any (λ n. n == k) (right_places pairs) ≡ is_there (option_and_then (slice_get sides) (option_map (λ (r : Pair). r.left) (find (λ (r : Pair). r.right == k) pairs)))
        → (b || list_any (λ n. n == k) (right_places pairs)) ≡ is_there (option_and_then (slice_get sides) (option_map (λ (r : Pair). r.left) (cond b (Some p) (find (λ (r : Pair). r.right == k) pairs))))
    by_test true e ih = sym e
    by_test false e ih = ih

-- where two coordinates agree, the side of a left dimension has the number of the right one that it is paired with
pair_holds : (pairs : List Pair) (sides : Sides) (m n : ℕ) (l r : Coordinate) (x : ℤ) → slice_index_or r n (pos 0) ≡ x → agree pairs l r ≡ true
    → ((j : ℕ) → j < m → Holds (slice_get sides j) (slice_index_or l j (pos 0))) → list_all (λ place. nat_lt place m) (left_places pairs) ≡ true → Holds (paired_with pairs sides n) x
pair_holds [] sides m n l r x e same held low = tt
pair_holds (p ∷ pairs) sides m n l r x e same held low =
    let a = and_parts (int_eq (slice_index_or l p.left (pos 0)) (slice_index_or r p.right (pos 0))) (agree pairs l r) same in
    let b = and_parts (nat_lt p.left m) (list_all (λ place. nat_lt place m) (left_places pairs)) low in
    by_test (p.right == n) refl (same_number (slice_index_or l p.left (pos 0)) (slice_index_or r p.right (pos 0)) a.0) (held p.left (ltb-true p.left m b.0)) (pair_holds pairs sides m n l r x e a.1 held b.1)
  where
    same_number : (y z : ℤ) → int_eq y z ≡ true → y ≡ z
    same_number y z t = grind (arith, ints)

    by_test : (b : Bool) → (p.right == n) ≡ b → slice_index_or l p.left (pos 0) ≡ slice_index_or r p.right (pos 0) → Holds (slice_get sides p.left) (slice_index_or l p.left (pos 0)) → Holds (paired_with pairs sides n) x
        → Holds (option_and_then (slice_get sides) (option_map (λ (q : Pair). q.left) (cond b (Some p) (find (λ (q : Pair). q.right == n) pairs)))) x
    by_test false t s h ih = ih
    by_test true t s h ih = subst (λ (z : ℤ). Holds (slice_get sides p.left) z) (s ∙ ap (λ (k : ℕ). slice_index_or r k (pos 0)) (eqb-true p.right n t) ∙ e) h

-- ---- one left row and all right ones

abbrev crossed_row : List Pair → Row → Row → Row
crossed_row pairs l r = placed (cross_at pairs l.at.items r.at.items) (cell_beside l.cell r.cell)

abbrev crossed_with : List Pair → List Row → Row → List Row
crossed_with pairs right l = map (crossed_row pairs l) (rows_where (agree pairs l.at.items) right)

right_held : (pairs : List Pair) (d e : List Dimension) (sides : Sides) → list_all (λ place. nat_lt place (length d)) (left_places pairs) ≡ true → length d ≤ length sides → (l r : Coordinate)
    → is_inside (bounds_of d) l ≡ true → is_inside (bounds_of e) r ≡ true → agree pairs l r ≡ true → is_inside (box_of sides) (cross_at pairs l r) ≡ true → is_inside (box_of (of_right d e pairs sides)) r ≡ true
right_held pairs d e sides low long l r in_left in_right f g =
    let many : length l ≡ length d = bounds_length d l in_left in
    let q = split_box sides l (items_but (right_places pairs) 0 r) g in
    let own : is_inside (box_of (drop (length d) sides)) (items_but (right_places pairs) 0 r) ≡ true = subst (λ (n : ℕ). is_inside (box_of (drop n sides)) (items_but (right_places pairs) 0 r) ≡ true) many q.1 in
    filled_inside (paired_with pairs sides) (right_places pairs) (paired_there pairs sides (length d) long low) 0 e (drop (length d) sides) r in_right
    (given_hold (paired_with pairs sides) r (λ n x same. pair_holds pairs sides (length d) n l r x same f (λ j less. first_holds sides l j q.0 (fewer (length l) (length d) j many less)) low)
    0 r (λ k. ap (λ (m : ℕ). slice_index_or r m (pos 0)) (from_zero k))) own
  where
    from_zero : (k : ℕ) → 0 + k ≡ k
    from_zero k = omega arith

    fewer : (m n j : ℕ) → m ≡ n → j < n → j < m
    fewer m n j s t = omega arith

right_part : (pairs : List Pair) (d e : List Dimension) (sides : Sides) → list_all (λ place. nat_lt place (length d)) (left_places pairs) ≡ true → length d ≤ length sides → (l : Row) → Inside d l → (right : List Row) → AreInside e right
    → within (box_of sides) (crossed_with pairs right l) ≡ within (box_of sides) (crossed_with pairs (within (box_of (of_right d e pairs sides)) right) l)
right_part pairs d e sides low long l inside right j =
    needless_of (Inside e) (λ (row : Row). is_inside (box_of sides) row.at.items) (crossed_row pairs l) (λ (row : Row). agree pairs l.at.items row.at.items) (λ (row : Row). is_inside (box_of (of_right d e pairs sides)) row.at.items)
    (λ r in_right f g. right_held pairs d e sides low long l.at.items r.at.items inside in_right f g) right j

-- a left row outside of what is needed makes nothing in the box
not_in : (d : List Dimension) (sides : Sides) (l rest : Coordinate) → is_inside (bounds_of d) l ≡ true → is_inside (box_of (take (length d) sides)) l ≡ false → is_inside (box_of sides) (l ++ rest) ≡ false
not_in d sides l rest in_left out = by_test (is_inside (box_of sides) (l ++ rest)) refl
  where
    by_test : (b : Bool) → is_inside (box_of sides) (l ++ rest) ≡ b → b ≡ false
    by_test false e = refl
    by_test true e =
        let here : is_inside (box_of (take (length d) sides)) l ≡ true = subst (λ (n : ℕ). is_inside (box_of (take n sides)) l ≡ true) (bounds_length d l in_left) (split_box sides l rest e).0 in
        sym here ∙ out

none_of : {A B : Type 0} (p : B → Bool) (g : A → B) → ((x : A) → p (g x) ≡ false) → (xs : List A) → filter p (map g xs) ≡ []
none_of p g fails [] = refl
none_of {B = B} p g fails (x ∷ xs) = ap (λ (b : Bool). cond b (g x ∷ filter p (map g xs)) (filter p (map g xs))) (fails x) ∙ none_of p g fails xs

left_none : (pairs : List Pair) (d : List Dimension) (sides : Sides) (l : Row) → Inside d l → is_inside (box_of (of_left d sides)) l.at.items ≡ false → (right : List Row) → within (box_of sides) (crossed_with pairs right l) ≡ []
left_none pairs d sides l inside out right =
    none_of (λ (row : Row). is_inside (box_of sides) row.at.items) (crossed_row pairs l) (λ r. not_in d sides l.at.items (items_but (right_places pairs) 0 r.at.items) inside out) (rows_where (agree pairs l.at.items) right)

-- ---- all left rows

filter_flat : {A B : Type 0} (p : B → Bool) (f : A → List B) (xs : List A) → filter p (flat_map f xs) ≡ flat_map (λ x. filter p (f x)) xs
filter_flat p f [] = refl
filter_flat {B = B} p f (x ∷ xs) = filter-append p (f x) (flat_map f xs) ∙ ap (λ (l : List B). filter p (f x) ++ l) (filter_flat p f xs)

flat_same : {A B : Type 0} (P : A → Type 0) (f g : A → List B) (s : A → Bool) → ((x : A) → P x → s x ≡ true → f x ≡ g x) → ((x : A) → P x → s x ≡ false → f x ≡ []) → (xs : List A) → AllByRecursion P xs → flat_map f xs ≡ flat_map g (filter s xs)
flat_same P f g s same nothing [] all = refl
flat_same {A = A} {B = B} P f g s same nothing (x ∷ xs) all = by_test (s x) refl (flat_same P f g s same nothing xs all.1)
  where
    by_test : (b : Bool) → s x ≡ b → flat_map f xs ≡ flat_map g (filter s xs) → f x ++ flat_map f xs ≡ flat_map g (cond b (x ∷ filter s xs) (filter s xs))
    by_test true e ih = ap (λ (l : List B). l ++ flat_map f xs) (same x all.0 e) ∙ ap (λ (l : List B). g x ++ l) ih
    by_test false e ih = ap (λ (l : List B). l ++ flat_map f xs) (nothing x all.0 e) ∙ ih

cross_depends : (pairs : List Pair) (d e : List Dimension) (sides : Sides) → list_all (λ place. nat_lt place (length d)) (left_places pairs) ≡ true → length d ≤ length sides → (left right : List Row) → AreInside d left → AreInside e right
    → within (box_of sides) (cross_rows pairs left right) ≡ within (box_of sides) (cross_rows pairs (within (box_of (of_left d sides)) left) (within (box_of (of_right d e pairs sides)) right))
cross_depends pairs d e sides low long left right i j =
    let some : List Row = within (box_of (of_right d e pairs sides)) right in
    filter_flat (λ (row : Row). is_inside (box_of sides) row.at.items) (crossed_with pairs right) left
    ∙ flat_same (Inside d) (λ (l : Row). within (box_of sides) (crossed_with pairs right l)) (λ (l : Row). within (box_of sides) (crossed_with pairs some l)) (λ (l : Row). is_inside (box_of (of_left d sides)) l.at.items)
    (λ l inside t. right_part pairs d e sides low long l inside right j) (λ l inside t. left_none pairs d sides l inside t right) left i
    ∙ sym (filter_flat (λ (row : Row). is_inside (box_of sides) row.at.items) (crossed_with pairs some) (within (box_of (of_left d sides)) left))

crossed_within : (pairs : List Pair) (d e : List Dimension) (sides : Sides) → list_all (λ place. nat_lt place (length d)) (left_places pairs) ≡ true → length d ≤ length sides → (x y : Result (List Row) Broken) → IfOk x (AreInside d) → IfOk y (AreInside e)
    → if_whole (within (box_of sides)) (and_then (λ l. if_whole (cross_rows pairs l) y) x)
    ≡ and_then (λ l. if_whole (λ (r : List Row). within (box_of sides) (cross_rows pairs l r)) (if_whole (within (box_of (of_right d e pairs sides))) y)) (if_whole (within (box_of (of_left d sides))) x)
crossed_within pairs d e sides low long (Ok left) (Ok right) i j = ap (λ (l : List Row). Ok l) (cross_depends pairs d e sides low long left right i j)
crossed_within pairs d e sides low long (Ok left) (Err broken) i j = refl
crossed_within pairs d e sides low long (Err broken) y i j = refl

pub alike_crossed : (pairs : List Pair) (d e : List Dimension) (sides : Sides) → list_all (λ place. nat_lt place (length d)) (left_places pairs) ≡ true → length d ≤ length sides → (x y x' y' : Result (List Row) Broken)
    → IfOk x (AreInside d) → IfOk y (AreInside e) → IfOk x' (AreInside d) → IfOk y' (AreInside e)
    → if_whole (within (box_of (of_left d sides))) x ≡ if_whole (within (box_of (of_left d sides))) x' → if_whole (within (box_of (of_right d e pairs sides))) y ≡ if_whole (within (box_of (of_right d e pairs sides))) y'
    → if_whole (within (box_of sides)) (and_then (λ l. if_whole (cross_rows pairs l) y) x) ≡ if_whole (within (box_of sides)) (and_then (λ l. if_whole (cross_rows pairs l) y') x')
alike_crossed pairs d e sides low long x y x' y' i j i' j' f g =
    crossed_within pairs d e sides low long x y i j
    ∙ ap (λ (r : Result (List Row) Broken). and_then (λ l. if_whole (λ (m : List Row). within (box_of sides) (cross_rows pairs l m)) (if_whole (within (box_of (of_right d e pairs sides))) y)) r) f
    ∙ ap (λ (r : Result (List Row) Broken). and_then (λ l. if_whole (λ (m : List Row). within (box_of sides) (cross_rows pairs l m)) r) (if_whole (within (box_of (of_left d sides))) x')) g
    ∙ sym (crossed_within pairs d e sides low long x' y' i' j')

-- ---- lengths

pub length-left : (d : List Dimension) (sides : Sides) → length d ≤ length sides → length (of_left d sides) ≡ length d
length-left d sides long = omega (arith, length-take (length d) sides)

pub length-right : (pairs : List Pair) (d e : List Dimension) (sides : Sides) → list_all (λ place. nat_lt place (length d)) (left_places pairs) ≡ true → length sides ≡ length d + length (items_but (right_places pairs) 0 e)
    → length (of_right d e pairs sides) ≡ length e
length-right pairs d e sides low s =
    length-filled (paired_with pairs sides) (right_places pairs) (paired_there pairs sides (length d) (omega arith) low) 0 e (drop (length d) sides) (omega (arith, length-drop (length d) sides))
