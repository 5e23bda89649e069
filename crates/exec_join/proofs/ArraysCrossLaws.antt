-- The cross-joined rows of two arrays are those of an array of their cross join's schema.
use Rattle.std.proofs.Common.{◌≡◌, ℕ, suc, ◌+◌, ◌≤◌, ◌<◌, pos, Bool, true, false, cond, IsTrue, List, [], ◌∷◌, ◌++◌, map, length, take, drop, refl, sym, ap, ◌∙◌, subst, arith, length-append, length-take, length-drop}
use Rattle.std.proofs.lemmas.Bool.{eqb-true, eq-eqb, ltb-true}
use Rattle.std.proofs.lemmas.Cmp.{int_cmp_total, tied_itself}
use Rattle.std.proofs.lemmas.List.{length-map}
use Rattle.std.proofs.lemmas.List.Elements.{All-cons}
use Rattle.std.proofs.lemmas.Map.Steps.{length-le_from_distinct_below}
use Rattle.std.proofs.Math.Dec.{eqb}
use Rattle.std.specs.Cmp.{signed_Decides}
use Rattle.std.specs.List.{All, AllByRecursion, IsDistinct, list_any}
use Rattle.std.specs.Ordering.{int_cmp, int_eq, ordering_then}
use Rattle.std.specs.Prelude.{◌==◌, ◌&&◌, ◌||◌, not, nat_lt, int_le, slice_index_or}
use Rattle.std.specs.declared.cmp.Ordering.{Ordering}
use Rattle.std.specs.declared.cmp.Ordering.TheVariants.{Less, Equal, Greater}
use Rattle.cell_values.specs.declared.datum.Row.{Row}
use Rattle.cell_values.specs.declared.schema.Attribute.{Attribute}
use Rattle.cell_values.specs.declared.schema.Bounds.{Bounds}
use Rattle.cell_values.specs.declared.schema.Dimension.{Dimension}
use Rattle.cell_values.specs.declared.schema.Schema.{Schema}
use Rattle.cell_values.specs.Cells.{IsCellOf}
use Rattle.cell_values.specs.Schemas.{IsValid, attribute_names, dimension_names}
use Rattle.array_rows.specs.Arrays.{AreRowsOf}
use Rattle.array_rows.specs.Boxes.{is_inside, bounds_of, by_pairs}
use Rattle.array_rows.specs.Rows.{Coordinate, row_major, placed, rows_where, IsBefore, IsRising}
use Rattle.array_rows.proofs.RowSets.{IsRising-rows_where}
use Rattle.array_geom.proofs.NearLemmas.{valid_placed}
use Rattle.array_geom.proofs.TestLaws.{and_parts, and_both}
use Rattle.logical_plan.specs.declared.parts.Pair.{Pair}
use Rattle.logical_plan.specs.BoxOps.{items_but}
use Rattle.logical_plan.specs.Joins.{agree, cell_beside, cross_at, cross_rows, right_places}
use Rattle.logical_plan.specs.PlanSchema.{free_names, renamed_attribute, cross_schema}
use Rattle.logical_plan.specs.Typing.{are_apart, are_below, left_places, pairs_dimensions}
use Rattle.logical_plan.proofs.BuiltRows.{all-append, all-map, all-follows, all-each}
use Rattle.exec_join.specs.Inner.Cross.{HaveRoom}
use Rattle.exec_box.proofs.MovedLaws.{AllAt, all_where, passing}
use Rattle.exec_box.proofs.SliceLaws.{AgreeFrom, inside_but, is_among, long, order_but}
use Rattle.exec_join.proofs.SideLaws.{as_many_names, beside_kinds, renamed_cell, same_bounds}

-- the row of two rows
abbrev pub of_both : List Pair → Row → Row → Row
of_both pairs l r = placed (cross_at pairs l.at.items r.at.items) (cell_beside l.cell r.cell)

-- the rows of a left one
abbrev pub of_left : List Pair → List Row → Row → List Row
of_left pairs right l = map (of_both pairs l) (rows_where (agree pairs l.at.items) right)

-- ---- places

-- coordinates that agree with one left coordinate agree in the paired dimensions
agree_both : (pairs : List Pair) (m : ℕ) (l a b : Coordinate) → agree pairs l a ≡ true → agree pairs l b ≡ true → is_among (right_places pairs) m ≡ true → slice_index_or a m (pos 0) ≡ slice_index_or b m (pos 0)
agree_both [] m l a b e f t = cc
agree_both (g ∷ pairs) m l a b e f t = cases (g.right == m) refl t (agree_both pairs m l a b p.1 q.1)
  where
    p : (int_eq (slice_index_or l g.left (pos 0)) (slice_index_or a g.right (pos 0)) ≡ true) × (agree pairs l a ≡ true)
    p = and_parts (int_eq (slice_index_or l g.left (pos 0)) (slice_index_or a g.right (pos 0))) (agree pairs l a) e

    q : (int_eq (slice_index_or l g.left (pos 0)) (slice_index_or b g.right (pos 0)) ≡ true) × (agree pairs l b ≡ true)
    q = and_parts (int_eq (slice_index_or l g.left (pos 0)) (slice_index_or b g.right (pos 0))) (agree pairs l b) f

    cases : (s : Bool) → (g.right == m) ≡ s → (s || is_among (right_places pairs) m) ≡ true → (is_among (right_places pairs) m ≡ true → slice_index_or a m (pos 0) ≡ slice_index_or b m (pos 0))
        → slice_index_or a m (pos 0) ≡ slice_index_or b m (pos 0)
    cases false s u rest = rest u
    cases true s u rest =
        let here : g.right ≡ m = eqb-true g.right m s in
        let left : slice_index_or l g.left (pos 0) ≡ slice_index_or a g.right (pos 0) = (signed_Decides (slice_index_or l g.left (pos 0)) (slice_index_or a g.right (pos 0))).0 p.0 in
        let right : slice_index_or l g.left (pos 0) ≡ slice_index_or b g.right (pos 0) = (signed_Decides (slice_index_or l g.left (pos 0)) (slice_index_or b g.right (pos 0))).0 q.0 in
        ap (λ (k : ℕ). slice_index_or a k (pos 0)) (sym here) ∙ sym left ∙ right ∙ ap (λ (k : ℕ). slice_index_or b k (pos 0)) here

abbrev Fits : List Dimension → List Pair → Coordinate → Coordinate → Type 0
Fits dims pairs l c = (is_inside (bounds_of dims) c ≡ true) × (agree pairs l c ≡ true)

all_fit : (dims : List Dimension) (pairs : List Pair) (l : Coordinate) (rows : List Row) → AllAt (λ c. is_inside (bounds_of dims) c ≡ true) rows → AllAt (λ c. agree pairs l c ≡ true) rows → AllAt (Fits dims pairs l) rows
all_fit dims pairs l [] i h = tt
all_fit dims pairs l (row ∷ rows) i h = ((i.0, h.0), all_fit dims pairs l rows i.1 h.1)

-- partners of a left row keep their order
same_order : (dims : List Dimension) (pairs : List Pair) (l a b : Coordinate) → Fits dims pairs l a → Fits dims pairs l b → row_major (items_but (right_places pairs) 0 a) (items_but (right_places pairs) 0 b) ≡ row_major a b
same_order dims pairs l a b p q = order_but (right_places pairs) 0 a b (long dims a p.0 ∙ sym (long dims b q.0)) agreed
  where
    agreed : AgreeFrom (right_places pairs) 0 a b
    agreed k m e t =
        let same : m ≡ k = omega arith in
        agree_both pairs k l a b p.1 q.1 (ap (is_among (right_places pairs)) (sym same) ∙ t)

-- ---- order

same_front : (l a b : Coordinate) → row_major (l ++ a) (l ++ b) ≡ row_major a b
same_front [] a b = refl
same_front (x ∷ l) a b = ap (λ (o : Ordering). ordering_then o (row_major (l ++ a) (l ++ b))) (tied_itself int_cmp_total x) ∙ same_front l a b

less_front : (l m a b : Coordinate) → length l ≡ length m → row_major l m ≡ Less → row_major (l ++ a) (m ++ b) ≡ Less
less_front [] [] a b e h = cc
less_front [] (y ∷ m) a b e h = cc
less_front (x ∷ l) [] a b e h = cc
less_front (x ∷ l) (y ∷ m) a b e h = cases (int_cmp x y) h (less_front l m a b (cc (e)))
  where
    cases : (o : Ordering) → ordering_then o (row_major l m) ≡ Less → (row_major l m ≡ Less → row_major (l ++ a) (m ++ b) ≡ Less) → ordering_then o (row_major (l ++ a) (m ++ b)) ≡ Less
    cases Less h ih = refl
    cases Equal h ih = ih h
    cases Greater h ih = h

rise_append : (xs ys : List Row) → IsRising xs → IsRising ys → AllByRecursion (λ x. IsBefore x.at.items ys) xs → IsRising (xs ++ ys)
rise_append [] ys rx ry h = ry
rise_append (x ∷ xs) ys rx ry h = (all-append (λ row. row_major x.at.items row.at.items ≡ Less) xs ys rx.0 h.0, rise_append xs ys rx.1 ry h.1)

-- the rows of a left one rise
module _ (dims : List Dimension) (pairs : List Pair) (l : Row) where
  left_before : (r : Row) (rows : List Row) → Fits dims pairs l.at.items r.at.items → AllAt (Fits dims pairs l.at.items) rows → IsBefore r.at.items rows → IsBefore (cross_at pairs l.at.items r.at.items) (map (of_both pairs l) rows)
  left_before r [] p ps b = tt
  left_before r (row ∷ rows) p ps b = (
    same_front l.at.items (items_but (right_places pairs) 0 r.at.items) (items_but (right_places pairs) 0 row.at.items) ∙ same_order dims pairs l.at.items r.at.items row.at.items p ps.0 ∙ b.0,
    left_before r rows p ps.1 b.1,
  )

  left_rise : (rows : List Row) → AllAt (Fits dims pairs l.at.items) rows → IsRising rows → IsRising (map (of_both pairs l) rows)
  left_rise [] ps rise = tt
  left_rise (row ∷ rows) ps rise = (left_before row rows ps.0 ps.1 rise.0, left_rise rows ps.1 rise.1)

-- a left row that comes before others has its rows before theirs
before_rest : (n : ℕ) (pairs : List Pair) (right : List Row) (c a : Coordinate) (left : List Row) → length c ≡ n → AllAt (λ b. length b ≡ n) left → IsBefore c left → IsBefore (c ++ a) (cross_rows pairs left right)
before_rest n pairs right c a [] e ns b = tt
before_rest n pairs right c a (l ∷ left) e ns b =
    all-append (λ row. row_major (c ++ a) row.at.items ≡ Less) (of_left pairs right l) (cross_rows pairs left right)
    (all-map (λ row. row_major (c ++ a) row.at.items ≡ Less) (of_both pairs l) (rows_where (agree pairs l.at.items) right)
    (all-each (λ r. row_major (c ++ a) (cross_at pairs l.at.items r.at.items) ≡ Less)
    (λ r. less_front c l.at.items a (items_but (right_places pairs) 0 r.at.items) (e ∙ sym ns.0) b.0) (rows_where (agree pairs l.at.items) right)))
    (before_rest n pairs right c a left e ns.1 b.1)

cross_rise : (n : ℕ) (dims : List Dimension) (pairs : List Pair) (left right : List Row) → AllAt (λ c. length c ≡ n) left → IsRising left → AllAt (λ c. is_inside (bounds_of dims) c ≡ true) right → IsRising right → IsRising (cross_rows pairs left right)
cross_rise n dims pairs [] right ns rl inside rr = tt
cross_rise n dims pairs (l ∷ left) right ns rl inside rr =
    let some : List Row = rows_where (agree pairs l.at.items) right in
    let fit : AllAt (Fits dims pairs l.at.items) some =
    all_fit dims pairs l.at.items some (all_where (λ row. is_inside (bounds_of dims) row.at.items ≡ true) (agree pairs l.at.items) right inside) (passing (agree pairs l.at.items) right) in
    rise_append (of_left pairs right l) (cross_rows pairs left right)
    (left_rise dims pairs l some fit (IsRising-rows_where (agree pairs l.at.items) right rr))
    (cross_rise n dims pairs left right ns.1 rl.1 inside rr)
    (all-map (λ row. IsBefore row.at.items (cross_rows pairs left right)) (of_both pairs l) some
    (all-each (λ r. IsBefore (cross_at pairs l.at.items r.at.items) (cross_rows pairs left right))
    (λ r. before_rest n pairs right l.at.items (items_but (right_places pairs) 0 r.at.items) left ns.0 ns.1 rl.0) some))

-- ---- what holds of each row

all_crossed : (Q L R : Row → Type 0) (pairs : List Pair) → ((l r : Row) → L l → R r → Q (of_both pairs l r)) → (left right : List Row) → AllByRecursion L left → AllByRecursion R right → AllByRecursion Q (cross_rows pairs left right)
all_crossed Q L R pairs f [] right h k = tt
all_crossed Q L R pairs f (l ∷ left) right h k =
    let some : List Row = rows_where (agree pairs l.at.items) right in
    all-append Q (of_left pairs right l) (cross_rows pairs left right)
    (all-map Q (of_both pairs l) some (all-follows R (λ r. Q (of_both pairs l r)) (λ r p. f l r h.0 p) some (all_where R (agree pairs l.at.items) right k)))
    (all_crossed Q L R pairs f left right h.1 k)

inside_append : (dims more : List Dimension) (c d : Coordinate) → is_inside (bounds_of dims) c ≡ true → is_inside (bounds_of more) d ≡ true → is_inside (bounds_of (dims ++ more)) (c ++ d) ≡ true
inside_append [] more [] d e f = f
inside_append [] more (x ∷ c) d e f = cc
inside_append (g ∷ dims) more [] d e f = cc
inside_append (g ∷ dims) more (x ∷ c) d e f =
    let parts = and_parts (int_le g.lo x && int_le x g.hi) (is_inside (bounds_of dims) c) e in
    and_both (int_le g.lo x && int_le x g.hi) (is_inside (bounds_of (dims ++ more)) (c ++ d)) parts.0 (inside_append dims more c d parts.1 f)

-- ---- the schema

abbrev dims_of : List Pair → Schema → Schema → List Dimension
dims_of pairs left right = left.dimensions ++ items_but (right_places pairs) 0 right.dimensions

abbrev attributes_of : Schema → Schema → List Attribute
attributes_of left right = left.attributes ++ right.attributes

abbrev names_for : List Pair → Schema → Schema → List (List ℕ)
names_for pairs left right = free_names [] (dimension_names (dims_of pairs left right) ++ attribute_names (attributes_of left right))

enough : (pairs : List Pair) (left right : Schema) → length (names_for pairs left right) ≡ length (dims_of pairs left right) + length (attributes_of left right)
enough pairs left right =
    let dims = dims_of pairs left right in
    let attributes = attributes_of left right in
    as_many_names [] (dimension_names dims ++ attribute_names attributes) ∙ length-append (dimension_names dims) (attribute_names attributes)
    ∙ (λ i. length-map dims (λ (d : Dimension). d.name) i + length-map attributes (λ (a : Attribute). a.name) i)

cross_bounds : (pairs : List Pair) (left right schema : Schema) → schema ≡ cross_schema pairs left right → bounds_of schema.dimensions ≡ bounds_of (dims_of pairs left right)
cross_bounds pairs left right schema e =
    let names = names_for pairs left right in
    let dims = dims_of pairs left right in
    let all = enough pairs left right in
    let front = length-take (length dims) names in
    ap (λ (s : Schema). bounds_of s.dimensions) e ∙ same_bounds dims (take (length dims) names) (omega (arith, all, front))

pub cross_are_rows : (pairs : List Pair) (left right schema : Schema) (left_rows right_rows : List Row) → AreRowsOf left left_rows → AreRowsOf right right_rows → schema ≡ cross_schema pairs left right → IsValid schema
    → AreRowsOf schema (cross_rows pairs left_rows right_rows)
cross_are_rows pairs left right schema left_rows right_rows l r e v =
    let names = names_for pairs left right in
    let dims = dims_of pairs left right in
    let attributes = attributes_of left right in
    let all = enough pairs left right in
    let behind = length-drop (length dims) names in
    let some : length attributes ≤ length (drop (length dims) names) = omega (arith, all, behind) in
    let long_left : AllAt (λ c. length c ≡ length left.dimensions) left_rows =
    all-follows (λ (row : Row). IsTrue (is_inside (bounds_of left.dimensions) row.at.items)) (λ (row : Row). length row.at.items ≡ length left.dimensions) (λ row p. long left.dimensions row.at.items p) left_rows l.are_rows.in_bounds in
    record {
      valid = v;
      are_rows = record {
        rising = cross_rise (length left.dimensions) right.dimensions pairs left_rows right_rows long_left l.are_rows.rising r.are_rows.in_bounds r.are_rows.rising;
        in_bounds = subst (λ (b : Bounds). AllByRecursion (λ (row : Row). IsTrue (is_inside b row.at.items)) (cross_rows pairs left_rows right_rows)) (sym (cross_bounds pairs left right schema e))
            (all_crossed (λ row. is_inside (bounds_of dims) row.at.items ≡ true) (λ row. is_inside (bounds_of left.dimensions) row.at.items ≡ true) (λ row. is_inside (bounds_of right.dimensions) row.at.items ≡ true) pairs
            (λ a b h k. inside_append left.dimensions (items_but (right_places pairs) 0 right.dimensions) a.at.items (items_but (right_places pairs) 0 b.at.items) h (inside_but (right_places pairs) 0 right.dimensions b.at.items k))
            left_rows right_rows l.are_rows.in_bounds r.are_rows.in_bounds);
      };
      kinds = subst (λ (s : Schema). AllByRecursion (λ (row : Row). IsCellOf s.attributes row.cell) (cross_rows pairs left_rows right_rows)) (sym e)
          (all_crossed (λ row. IsCellOf (by_pairs renamed_attribute attributes (drop (length dims) names)) row.cell) (λ row. IsCellOf left.attributes row.cell) (λ row. IsCellOf right.attributes row.cell) pairs
          (λ a b h k. renamed_cell attributes (drop (length dims) names) (cell_beside a.cell b.cell) some (beside_kinds left.attributes right.attributes a.cell b.cell h k))
          left_rows right_rows l.kinds r.kinds);
    }

-- ---- how many numbers

none_same : (n : ℕ) (ns : List ℕ) → not (list_any (λ m. m == n) ns) ≡ true → AllByRecursion (λ m. eqb n m ≡ false) ns
none_same n [] h = tt
none_same n (m ∷ ns) h = cases (m == n) refl h (none_same n ns)
  where
    other : (b : Bool) → eqb n m ≡ b → (m == n) ≡ false → eqb n m ≡ false
    other false e f = e
    other true e f = absurd cc (ap (λ (b : Bool). b) (sym (eq-eqb m n (sym (eqb-true n m e))) ∙ f))

    cases : (b : Bool) → (m == n) ≡ b → not (b || list_any (λ m. m == n) ns) ≡ true → (not (list_any (λ m. m == n) ns) ≡ true → AllByRecursion (λ m. eqb n m ≡ false) ns) → AllByRecursion (λ m. eqb n m ≡ false) (m ∷ ns)
    cases true e h rest = absurd cc
    cases false e h rest = (other (eqb n m) refl e, rest h)

distinct : (ns : List ℕ) → are_apart ns ≡ true → IsDistinct eqb ns
unfolding IsDistinct
distinct [] h = tt
distinct (n ∷ ns) h =
    let parts = and_parts (not (list_any (λ m. m == n) ns)) (are_apart ns) h in
    (none_same n ns parts.0, distinct ns parts.1)

below : (n q : ℕ) (ns : List ℕ) → are_below n ns ≡ true → list_any (eqb q) ns ≡ true → q < n
below n q [] h t = absurd cc
below n q (m ∷ ns) h t = cases (eqb q m) refl t (below n q ns parts.1)
  where
    parts : (nat_lt m n ≡ true) × (are_below n ns ≡ true)
    parts = and_parts (nat_lt m n) (are_below n ns) h

    cases : (b : Bool) → eqb q m ≡ b → (b || list_any (eqb q) ns) ≡ true → (list_any (eqb q) ns ≡ true → q < n) → q < n
    cases true e t rest = subst (λ (k : ℕ). k < n) (sym (eqb-true q m e)) (ltb-true m n parts.0)
    cases false e t rest = rest t

-- paired dimensions are at most as many as there are dimensions
pub few_pairs : (pairs : List Pair) (left right : Schema) → IsValid left → IsTrue (pairs_dimensions pairs left right) → length pairs ≤ 6
few_pairs pairs left right valid h =
    let n = length left.dimensions in
    let ls = left_places pairs in
    let rs = right_places pairs in
    let a = and_parts (are_below n ls && are_apart ls && are_below (length right.dimensions) rs) (are_apart rs) h in
    let b = and_parts (are_below n ls && are_apart ls) (are_below (length right.dimensions) rs) a.0 in
    let c = and_parts (are_below n ls) (are_apart ls) b.0 in
    let as_many : length ls ≤ n = length-le_from_distinct_below ls n (distinct ls c.1) (λ q t. below n q ls c.0 t) in
    let few = (valid_placed left valid).few in
    let same = length-map pairs (λ (p : Pair). p.left) in
    omega (arith, as_many, few, same)

-- ---- room for the numbers

as_long_but : {A B : Type 0} (places : List ℕ) (n : ℕ) (xs : List A) (ys : List B) → length xs ≡ length ys → length (items_but places n xs) ≡ length (items_but places n ys)
as_long_but places n [] [] e = refl
as_long_but places n [] (y ∷ ys) e = cc
as_long_but places n (x ∷ xs) [] e = cc
as_long_but places n (x ∷ xs) (y ∷ ys) e = cases (is_among places n) (as_long_but places (n + 1) xs ys (cc (e)))
  where
    cases : (t : Bool) → length (items_but places (n + 1) xs) ≡ length (items_but places (n + 1) ys)
        → length (cond t (items_but places (n + 1) xs) (x ∷ items_but places (n + 1) xs)) ≡ length (cond t (items_but places (n + 1) ys) (y ∷ items_but places (n + 1) ys))
    cases true h = h
    cases false h = ap suc h

pub as_many_dimensions : (pairs : List Pair) (left right schema : Schema) → schema ≡ cross_schema pairs left right → length schema.dimensions ≡ length (dims_of pairs left right)
as_many_dimensions pairs left right schema e =
    sym (length-map schema.dimensions (λ (d : Dimension). d.lo)) ∙ ap (λ (b : Bounds). length b.lo.items) (cross_bounds pairs left right schema e) ∙ length-map (dims_of pairs left right) (λ (d : Dimension). d.lo)

each_index : {X : Type 0} (P : X → Type 0) (xs : List X) → AllByRecursion P xs → All P xs
each_index P [] h = λ k d l. absurd (omega arith)
each_index P (x ∷ xs) h = All-cons P x xs h.0 (each_index P xs h.1)

pub cross_room : (pairs : List Pair) (left right schema : Schema) (left_rows right_rows : List Row) → AreRowsOf left left_rows → AreRowsOf right right_rows → schema ≡ cross_schema pairs left right → IsValid schema
    → HaveRoom pairs left_rows right_rows
cross_room pairs left right schema left_rows right_rows l r e v =
    each_index (λ a. All (λ b. length (cross_at pairs a.at.items b.at.items) ≤ 6) right_rows) left_rows
    (all-follows (λ (row : Row). IsTrue (is_inside (bounds_of left.dimensions) row.at.items)) (λ a. All (λ b. length (cross_at pairs a.at.items b.at.items) ≤ 6) right_rows) one left_rows l.are_rows.in_bounds)
  where
    fits : (a b : Row) → is_inside (bounds_of left.dimensions) a.at.items ≡ true → is_inside (bounds_of right.dimensions) b.at.items ≡ true → length (cross_at pairs a.at.items b.at.items) ≤ 6
    fits a b p q =
        let few = (valid_placed schema v).few in
        let made = as_many_dimensions pairs left right schema e in
        let both = length-append left.dimensions (items_but (right_places pairs) 0 right.dimensions) in
        let front = long left.dimensions a.at.items p in
        let others = as_long_but (right_places pairs) 0 b.at.items right.dimensions (long right.dimensions b.at.items q) in
        let numbers = length-append a.at.items (items_but (right_places pairs) 0 b.at.items) in
        omega (arith, few, made, both, front, others, numbers)

    one : (a : Row) → IsTrue (is_inside (bounds_of left.dimensions) a.at.items) → All (λ b. length (cross_at pairs a.at.items b.at.items) ≤ 6) right_rows
    one a p = each_index (λ b. length (cross_at pairs a.at.items b.at.items) ≤ 6) right_rows (all-follows (λ (row : Row). IsTrue (is_inside (bounds_of right.dimensions) row.at.items)) (λ b. length (cross_at pairs a.at.items b.at.items) ≤ 6) (λ b q. fits a b p q) right_rows r.are_rows.in_bounds)
