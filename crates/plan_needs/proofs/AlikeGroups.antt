-- What groups need of their source.
use Rattle.std.proofs.Common.{◌≡◌, ℕ, suc, ◌+◌, ℤ, pos, ◌≤ℤ◌, Bool, true, false, List, [], ◌∷◌, map, filter, cond, Option, Some, None, Result, Ok, Err, refl, sym, ap, ◌∙◌, subst, arith}
use Rattle.std.specs.Prelude.{◌==◌, slice_index_or, IfOk}
use Rattle.std.specs.List.{AllByRecursion}
use Rattle.std.specs.Ordering.{is_eq}
use Rattle.std.specs.declared.cmp.Ordering.{Ordering}
use Rattle.std.specs.declared.cmp.Ordering.TheVariants.{Less, Equal, Greater}
use Rattle.std.proofs.lemmas.Bool.{eqb-true}
use Rattle.std.proofs.lemmas.Int.{ints, clamps}
use Rattle.cell_values.specs.declared.datum.Broken.{Broken}
use Rattle.cell_values.specs.declared.datum.Cell.{Cell}
use Rattle.cell_values.specs.declared.datum.Row.{Row}
use Rattle.cell_values.specs.declared.schema.Bounds.{Bounds}
use Rattle.cell_values.specs.declared.schema.Dimension.{Dimension}
use Rattle.array_rows.specs.Boxes.{is_inside, within, bounds_of}
use Rattle.array_rows.specs.Rows.{Coordinate, row_major, placed, cell_at}
use Rattle.array_rows.proofs.RowsLemmas.{row_major_exact, same_rows}
use Rattle.array_rows.proofs.RowSets.{IsRising-in_order, IsRising-rows_where, cell_at-in_order, cell_at-within}
use Rattle.array_geom.specs.Link.{is_not_empty}
use Rattle.logical_plan.specs.declared.parts.Aggregate.{Aggregate}
use Rattle.logical_plan.specs.BoxOps.{numbers_at}
use Rattle.logical_plan.specs.Faults.{if_whole}
use Rattle.logical_plan.specs.Groups.{aggregates_of, group_at, grouped, aggregate_rows}
use Rattle.plan_needs.specs.declared.stretch.Stretch.{Stretch}
use Rattle.plan_needs.specs.Sides.{Sides, box_of, has_empty, unless_nothing, side_named, clipped, named_sides}
use Rattle.plan_needs.proofs.AlikeParts.{alike_by, Holds}
use Rattle.plan_needs.proofs.EmptyBoxes.{empty_box, needed_inside}
use Rattle.plan_needs.proofs.Inside.{AreInside, Inside, side_parts, side_from}

-- ---- the cell of a group

group_cell : List Aggregate → List Row → List Row → Option Cell
group_cell gs here all = cond (is_not_empty here) (Some (aggregates_of gs all)) None

mapped_cell : (group : Coordinate → Coordinate) (gs : List Aggregate) (all : List Row) (c : Coordinate) (rows : List Row)
    → cell_at (map (λ (row : Row). placed (group row.at.items) (aggregates_of gs (group_at group (group row.at.items) all))) rows) c ≡ group_cell gs (group_at group c rows) (group_at group c all)
unfolding group_cell
mapped_cell group gs all c [] = refl
mapped_cell group gs all c (row ∷ rows) = by_order (row_major (group row.at.items) c) refl (mapped_cell group gs all c rows)
  where
    by_order : (o : Ordering) → row_major (group row.at.items) c ≡ o
        → cell_at (map (λ (r : Row). placed (group r.at.items) (aggregates_of gs (group_at group (group r.at.items) all))) rows) c ≡ group_cell gs (group_at group c rows) (group_at group c all)
        → cond (is_eq o) (Some (aggregates_of gs (group_at group (group row.at.items) all))) (cell_at (map (λ (r : Row). placed (group r.at.items) (aggregates_of gs (group_at group (group r.at.items) all))) rows) c)
        ≡ group_cell gs (cond (is_eq o) (row ∷ group_at group c rows) (group_at group c rows)) (group_at group c all)
    by_order Less e ih = ih
    by_order Greater e ih = ih
    by_order Equal e ih = ap (λ (z : Coordinate). Some (aggregates_of gs (group_at group z all))) (row_major_exact (group row.at.items) c e)

grouped_cell : (group : Coordinate → Coordinate) (gs : List Aggregate) (rows : List Row) (c : Coordinate) → cell_at (grouped group gs rows) c ≡ group_cell gs (group_at group c rows) (group_at group c rows)
grouped_cell group gs rows c =
    cell_at-in_order (map (λ (row : Row). placed (group row.at.items) (aggregates_of gs (group_at group (group row.at.items) rows))) rows) c ∙ mapped_cell group gs rows c rows

-- ---- a filter that another one implies

pub implied : {A : Type 0} (P : A → Type 0) (p s : A → Bool) → ((x : A) → P x → p x ≡ true → s x ≡ true) → (xs : List A) → AllByRecursion P xs → filter p xs ≡ filter p (filter s xs)
implied P p s h [] all = refl
implied {A = A} P p s h (x ∷ xs) all = by_tests (s x) (p x) refl refl (implied P p s h xs all.1)
  where
    by_tests : (t b : Bool) → s x ≡ t → p x ≡ b → filter p xs ≡ filter p (filter s xs) → cond (p x) (x ∷ filter p xs) (filter p xs) ≡ filter p (cond t (x ∷ filter s xs) (filter s xs))
    by_tests true b e f ih = ap (λ (l : List A). cond (p x) (x ∷ l) l) ih
    by_tests false false e f ih = ap (λ (b : Bool). cond b (x ∷ filter p xs) (filter p xs)) f ∙ ih
    by_tests false true e f ih = let yes : s x ≡ true = h x all.0 f in cc

-- ---- groups in a box

in_part : (dims : List Dimension) (group : Coordinate → Coordinate) (box part : Bounds)
    → ((c : Coordinate) → is_inside (bounds_of dims) c ≡ true → is_inside box (group c) ≡ true → is_inside part c ≡ true)
    → (c : Coordinate) → is_inside box c ≡ true → (row : Row) → Inside dims row → is_eq (row_major (group row.at.items) c) ≡ true → is_inside part row.at.items ≡ true
in_part dims group box part h c e row inside f = by_order (row_major (group row.at.items) c) refl f
  where
    by_order : (o : Ordering) → row_major (group row.at.items) c ≡ o → is_eq o ≡ true → is_inside part row.at.items ≡ true
    by_order Less g t = absurd cc
    by_order Greater g t = absurd cc
    by_order Equal g t = h row.at.items inside (subst (λ (z : Coordinate). is_inside box z ≡ true) (sym (row_major_exact (group row.at.items) c g)) e)

pub grouped_depends : (dims : List Dimension) (group : Coordinate → Coordinate) (gs : List Aggregate) (box part : Bounds)
    → ((c : Coordinate) → is_inside (bounds_of dims) c ≡ true → is_inside box (group c) ≡ true → is_inside part c ≡ true)
    → (rows : List Row) → AreInside dims rows → within box (grouped group gs rows) ≡ within box (grouped group gs (within part rows))
grouped_depends dims group gs box part h rows i =
    same_rows (within box (grouped group gs rows)) (within box (grouped group gs (within part rows)))
    (IsRising-rows_where (is_inside box) (grouped group gs rows) (IsRising-in_order (map (λ (row : Row). placed (group row.at.items) (aggregates_of gs (group_at group (group row.at.items) rows))) rows))) (IsRising-rows_where (is_inside box) (grouped group gs (within part rows)) (IsRising-in_order (map (λ (row : Row). placed (group row.at.items) (aggregates_of gs (group_at group (group row.at.items) (within part rows)))) (within part rows))))
    (λ c. cell_at-within box (grouped group gs rows) c ∙ by_box c (is_inside box c) refl ∙ sym (cell_at-within box (grouped group gs (within part rows)) c))
  where
    same_group : (c : Coordinate) → is_inside box c ≡ true → group_at group c rows ≡ group_at group c (within part rows)
    same_group c e =
        implied (Inside dims) (λ (row : Row). is_eq (row_major (group row.at.items) c)) (λ (row : Row). is_inside part row.at.items)
        (λ row inside f. in_part dims group box part h c e row inside f) rows i

    by_box : (c : Coordinate) (t : Bool) → is_inside box c ≡ t → cond t (cell_at (grouped group gs rows) c) None ≡ cond t (cell_at (grouped group gs (within part rows)) c) None
    by_box c false e = refl
    by_box c true e =
        grouped_cell group gs rows c ∙ ap (λ (l : List Row). group_cell gs l l) (same_group c e) ∙ sym (grouped_cell group gs (within part rows) c)

-- ---- named dimensions

named_hold : (places : List ℕ) (sides : Sides) (n : ℕ) (z : Coordinate) (x : ℤ) → slice_index_or z n (pos 0) ≡ x → is_inside (box_of sides) (numbers_at places z) ≡ true → Holds (side_named places sides n) x
named_hold [] sides n z x e f = tt
named_hold (p ∷ places) [] n z x e f = tt
named_hold (p ∷ places) (s ∷ sides) n z x e f =
    let q = side_parts s.first s.last (slice_index_or z p (pos 0)) (is_inside (box_of sides) (numbers_at places z)) f in
    by_test (p == n) refl q.0 q.1 (named_hold places sides n z x e q.2)
  where
    by_test : (b : Bool) → (p == n) ≡ b → s.first ≤ℤ slice_index_or z p (pos 0) → slice_index_or z p (pos 0) ≤ℤ s.last → Holds (side_named places sides n) x → Holds (cond b (Some s) (side_named places sides n)) x
    by_test false t l h ih = ih
    by_test true t l h ih =
        let here : slice_index_or z p (pos 0) ≡ x = ap (λ (k : ℕ). slice_index_or z k (pos 0)) (eqb-true p n t) ∙ e in
        (subst (λ (y : ℤ). s.first ≤ℤ y) here l, subst (λ (y : ℤ). y ≤ℤ s.last) here h)

clipped_side : (d : Dimension) (o : Option Stretch) (x : ℤ) → d.lo ≤ℤ x → x ≤ℤ d.hi → Holds o x → ((clipped d o).first ≤ℤ x) × (x ≤ℤ (clipped d o).last)
clipped_side d None x a b h = (a, b)
clipped_side d (Some s) x a b h = let f = h.0 in let g = h.1 in (omega (arith, ints, clamps), omega (arith, ints, clamps))

named_sides_hold : (places : List ℕ) (sides : Sides) (z : Coordinate) (n : ℕ) (dims : List Dimension) (c : Coordinate) → ((k : ℕ) → slice_index_or z (n + k) (pos 0) ≡ slice_index_or c k (pos 0))
    → is_inside (bounds_of dims) c ≡ true → is_inside (box_of sides) (numbers_at places z) ≡ true → is_inside (box_of (named_sides places sides n dims)) c ≡ true
named_sides_hold places sides z n [] [] at e f = refl
named_sides_hold places sides z n [] (x ∷ c) at e f = absurd cc
named_sides_hold places sides z n (d ∷ dims) [] at e f = absurd cc
named_sides_hold places sides z n (d ∷ dims) (x ∷ c) at e f =
    let p = side_parts d.lo d.hi x (is_inside (bounds_of dims) c) e in
    let q = clipped_side d (side_named places sides n) x p.0 p.1 (named_hold places sides n z x (ap (λ (k : ℕ). slice_index_or z k (pos 0)) (first n) ∙ at 0) f) in
    side_from (clipped d (side_named places sides n)).first (clipped d (side_named places sides n)).last x _ q.0 q.1
    (named_sides_hold places sides z (n + 1) dims c (λ k. ap (λ (m : ℕ). slice_index_or z m (pos 0)) (later n k) ∙ at (suc k)) p.2 f)
  where
    first : (m : ℕ) → m ≡ m + 0
    first m = omega arith

    later : (m k : ℕ) → (m + 1) + k ≡ m + suc k
    later m k = omega arith

named_depends : (dims : List Dimension) (places : List ℕ) (gs : List Aggregate) (sides : Sides) (rows : List Row) → AreInside dims rows
    → within (box_of sides) (grouped (numbers_at places) gs rows) ≡ within (box_of sides) (grouped (numbers_at places) gs (within (box_of (unless_nothing (has_empty sides) (named_sides places sides 0 dims))) rows))
named_depends dims places gs sides =
    grouped_depends dims (numbers_at places) gs (box_of sides) (box_of (unless_nothing (has_empty sides) (named_sides places sides 0 dims)))
    (λ c e f. needed_inside sides (named_sides places sides 0 dims) (numbers_at places c) c f (named_sides_hold places sides c 0 dims c (λ k. ap (λ (m : ℕ). slice_index_or c m (pos 0)) (from_zero k)) e f))
  where
    from_zero : (k : ℕ) → 0 + k ≡ k
    from_zero k = omega arith

pub alike_named : (dims : List Dimension) (p : ℕ) (places : List ℕ) (gs : List Aggregate) (sides : Sides) (x y : Result (List Row) Broken) → IfOk x (AreInside dims) → IfOk y (AreInside dims)
    → if_whole (within (box_of (unless_nothing (has_empty sides) (named_sides (p ∷ places) sides 0 dims)))) x ≡ if_whole (within (box_of (unless_nothing (has_empty sides) (named_sides (p ∷ places) sides 0 dims)))) y
    → if_whole (within (box_of sides)) (if_whole (aggregate_rows (p ∷ places) gs) x) ≡ if_whole (within (box_of sides)) (if_whole (aggregate_rows (p ∷ places) gs) y)
alike_named dims p places gs sides x y i j h =
    alike_by (AreInside dims) (box_of sides) (box_of (unless_nothing (has_empty sides) (named_sides (p ∷ places) sides 0 dims))) (grouped (numbers_at (p ∷ places)) gs) (named_depends dims (p ∷ places) gs sides) x y i j h

-- ---- one group of all

pub alike_all : (dims : List Dimension) (gs : List Aggregate) (box : Bounds) (x y : Result (List Row) Broken) → x ≡ y → if_whole (within box) (if_whole (aggregate_rows [] gs) x) ≡ if_whole (within box) (if_whole (aggregate_rows [] gs) y)
alike_all dims gs box x y e = ap (λ (r : Result (List Row) Broken). if_whole (within box) (if_whole (aggregate_rows [] gs) r)) e

-- nothing of one group lies in a box without places; whether the source is broken shows in any part of it
none_of_all : (gs : List Aggregate) (sides : Sides) → has_empty sides ≡ true → (rows : List Row) → within (box_of sides) (aggregate_rows [] gs rows) ≡ []
none_of_all gs sides e rows = ap (λ (b : Bool). cond b (placed (pos 0 ∷ []) (aggregates_of gs rows) ∷ []) []) (empty_box sides (pos 0 ∷ []) e)

no_rows : List Row → List Row
no_rows rows = []

all_empty : (gs : List Aggregate) (sides : Sides) (part : Bounds) → has_empty sides ≡ true → (r : Result (List Row) Broken)
    → if_whole (within (box_of sides)) (if_whole (aggregate_rows [] gs) r) ≡ if_whole no_rows (if_whole (within part) r)
unfolding no_rows
all_empty gs sides part e (Ok rows) = ap (λ (l : List Row). Ok l) (none_of_all gs sides e rows)
all_empty gs sides part e (Err broken) = refl

pub alike_empty : (gs : List Aggregate) (sides : Sides) (part : Bounds) → has_empty sides ≡ true → (x y : Result (List Row) Broken) → if_whole (within part) x ≡ if_whole (within part) y
    → if_whole (within (box_of sides)) (if_whole (aggregate_rows [] gs) x) ≡ if_whole (within (box_of sides)) (if_whole (aggregate_rows [] gs) y)
alike_empty gs sides part e x y h = all_empty gs sides part e x ∙ ap (λ (r : Result (List Row) Broken). if_whole no_rows r) h ∙ sym (all_empty gs sides part e y)
