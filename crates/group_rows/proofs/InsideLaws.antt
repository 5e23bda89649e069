-- Groups lie within the bounds of their schemas.
use Rattle.std.proofs.Common.{◌≡◌, ℕ, zero, suc, ◌<◌, ℤ, pos, int_le, ◌&&◌, Bool, true, false, cond, IsTrue, List, [], ◌∷◌, map, filter, length, slice_get, Option, Some, None, refl, sym, ap, subst, arith}
use Rattle.std.specs.Prelude.{slice_index_or, nat_lt}
use Rattle.std.specs.List.{AllByRecursion, cons_option}
use Rattle.std.specs.Ordering.{is_eq}
use Rattle.std.specs.declared.cmp.Ordering.{Ordering}
use Rattle.std.specs.declared.cmp.Ordering.TheVariants.{Less, Equal, Greater}
use Rattle.cell_values.specs.declared.datum.Row.{Row}
use Rattle.cell_values.specs.declared.schema.Attribute.{Attribute}
use Rattle.cell_values.specs.declared.schema.Dimension.{Dimension}
use Rattle.cell_values.specs.declared.schema.Schema.{Schema}
use Rattle.cell_values.specs.Cells.{IsCellOf}
use Rattle.array_rows.specs.Arrays.{AreRowsOf}
use Rattle.array_rows.specs.Boxes.{is_between, is_inside, bounds_of}
use Rattle.array_rows.specs.Rows.{Coordinate, row_major}
use Rattle.array_rows.proofs.RowsLemmas.{row_major_exact}
use Rattle.array_parts.proofs.PartLemmas.{all_kept}
use Rattle.logical_plan.specs.declared.parts.Aggregate.{Aggregate}
use Rattle.logical_plan.specs.BoxOps.{items_at, numbers_at}
use Rattle.logical_plan.specs.Groups.{group_at}
use Rattle.logical_plan.specs.PlanSchema.{aggregate_kind, aggregate_attributes, without_overlap, group_dimensions, aggregate_schema}
use Rattle.logical_plan.specs.Typing.{kinds_of, are_below}
use Rattle.group_rows.specs.Sets.{unless_empty, sets_by, one_set}
use Rattle.group_rows.specs.Inner.Keys.{aggregate_sets}
use Rattle.group_rows.specs.Inner.Merging.{IsSetFor}

both : (p q : Bool) → (p && q) ≡ true → (p ≡ true) × (q ≡ true)
both true q h = (refl, h)
both false q h = absurd cc

pub all_true : (p q r : Bool) → p ≡ true → q ≡ true → r ≡ true → (p && q && r) ≡ true
all_true true true true h k l = refl
all_true false q r h k l = cc
all_true true false r h k l = cc
all_true true true false h k l = cc

pub kinds_told : (attributes : List Attribute) (gs : List Aggregate) → kinds_of (aggregate_attributes attributes gs) ≡ map (aggregate_kind attributes) gs
kinds_told attributes [] = refl
kinds_told attributes (g ∷ gs) = ap (λ kinds. aggregate_kind attributes g ∷ kinds) (kinds_told attributes gs)

-- ---- the set of a group

all_pass : (test : Row → Bool) (rows : List Row) → AllByRecursion (λ row. test row ≡ true) (filter test rows)
all_pass test [] = tt
all_pass test (row ∷ rows) = cases (test row) refl (all_pass test rows)
  where
    cases : (b : Bool) → test row ≡ b → AllByRecursion (λ row. test row ≡ true) (filter test rows) → AllByRecursion (λ row. test row ≡ true) (cond b (row ∷ filter test rows) (filter test rows))
    cases true e h = (e, h)
    cases false e h = h

is_equal : (o : Ordering) → is_eq o ≡ true → o ≡ Equal
is_equal Equal e = refl
is_equal Less e = absurd cc
is_equal Greater e = absurd cc

pub set_fits : (attributes : List Attribute) (target : Schema) (group : Coordinate → Coordinate) (rows : List Row) (c : Coordinate) → AllByRecursion (λ row. IsTrue (is_inside (bounds_of target.dimensions) (group row.at.items))) rows
    → AllByRecursion (λ row. IsCellOf attributes row.cell) rows → IsSetFor attributes target c (sets_by group rows c)
set_fits attributes target group rows c inside kinds =
    cases (group_at group c rows) (all_pass (λ row. is_eq (row_major (group row.at.items) c)) rows)
    (all_kept (λ row. IsTrue (is_inside (bounds_of target.dimensions) (group row.at.items))) (λ row. is_eq (row_major (group row.at.items) c)) rows inside)
    (all_kept (λ row. IsCellOf attributes row.cell) (λ row. is_eq (row_major (group row.at.items) c)) rows kinds)
  where
    cases : (some : List Row) → AllByRecursion (λ row. is_eq (row_major (group row.at.items) c) ≡ true) some → AllByRecursion (λ row. IsTrue (is_inside (bounds_of target.dimensions) (group row.at.items))) some
        → AllByRecursion (λ row. IsCellOf attributes row.cell) some → IsSetFor attributes target c (unless_empty some)
    cases [] p i k = tt
    cases (row ∷ some) p i k = (
      subst (λ (d : Coordinate). IsTrue (is_inside (bounds_of target.dimensions) d)) (row_major_exact (group row.at.items) c (is_equal (row_major (group row.at.items) c) p.0)) i.0,
      k,
    )

-- ---- named dimensions

-- a dimension, and a number within it
record IsWithin (dims : List Dimension) (place : ℕ) (number : ℤ) : Type 0 where
  d : Dimension
  there : slice_get dims place ≡ Some d
  low : int_le d.lo number ≡ true
  high : int_le number d.hi ≡ true

in_place : (dims : List Dimension) (c : Coordinate) (place : ℕ) → is_between (map (λ d. d.lo) dims) (map (λ d. d.hi) dims) c ≡ true → place < length dims → IsWithin dims place (slice_index_or c place (pos 0))
in_place [] c place b l = absurd (omega (arith, l))
in_place (d ∷ dims) [] place b l = absurd cc
in_place (d ∷ dims) (x ∷ c) zero b l =
    let first = both (int_le d.lo x) (int_le x d.hi) (both (int_le d.lo x && int_le x d.hi) (is_between (map (λ d. d.lo) dims) (map (λ d. d.hi) dims) c) b).0 in
    record { d = d; there = refl; low = first.0; high = first.1 }
in_place (d ∷ dims) (x ∷ c) (suc place) b l =
    let further = in_place dims c place (both (int_le d.lo x && int_le x d.hi) (is_between (map (λ d. d.lo) dims) (map (λ d. d.hi) dims) c) b).1 (omega (arith, l)) in
    record { d = further.d; there = further.there; low = further.low; high = further.high }

below : (n m : ℕ) → nat_lt n m ≡ true → n < m
below n m e = grind (arith, e)

named_inside : (dims : List Dimension) (places : List ℕ) (c : Coordinate) → is_between (map (λ d. d.lo) dims) (map (λ d. d.hi) dims) c ≡ true → are_below (length dims) places ≡ true
    → is_inside (bounds_of (map without_overlap (items_at places dims))) (numbers_at places c) ≡ true
named_inside dims [] c b l = refl
named_inside dims (place ∷ places) c b l =
    let less = both (nat_lt place (length dims)) (are_below (length dims) places) l in
    let here = in_place dims c place b (below place (length dims) less.0) in
    subst (λ (o : Option Dimension). is_inside (bounds_of (map without_overlap (cons_option o (items_at places dims)))) (numbers_at (place ∷ places) c) ≡ true) (sym here.there)
    (all_true (int_le here.d.lo (slice_index_or c place (pos 0))) (int_le (slice_index_or c place (pos 0)) here.d.hi) _ here.low here.high (named_inside dims places c b less.1))

-- an item for each place
pub as_many_items : (dims : List Dimension) (places : List ℕ) → are_below (length dims) places ≡ true → length (items_at places dims) ≡ length places
as_many_items dims [] l = refl
as_many_items dims (place ∷ places) l =
    let less = both (nat_lt place (length dims)) (are_below (length dims) places) l in
    one_more (slice_get dims place) (some_item dims place (below place (length dims) less.0)) (as_many_items dims places less.1)
  where
    one_more : (o : Option Dimension) → (o ≡ None → ⊥) → length (items_at places dims) ≡ length places → length (cons_option o (items_at places dims)) ≡ suc (length places)
    one_more None h e = absurd (h refl)
    one_more (Some d) h e = ap suc e

    some_item : (ds : List Dimension) (n : ℕ) → n < length ds → slice_get ds n ≡ None → ⊥
    some_item [] n l e = absurd (omega (arith, l))
    some_item (d ∷ ds) zero l e = absurd cc
    some_item (d ∷ ds) (suc n) l e = some_item ds n (omega (arith, l)) e

all_named : (schema target : Schema) (places : List ℕ) (rows : List Row) → target.dimensions ≡ map without_overlap (items_at places schema.dimensions) → are_below (length schema.dimensions) places ≡ true
    → AllByRecursion (λ row. IsTrue (is_inside (bounds_of schema.dimensions) row.at.items)) rows → AllByRecursion (λ row. IsTrue (is_inside (bounds_of target.dimensions) (numbers_at places row.at.items))) rows
all_named schema target places [] e l h = tt
all_named schema target places (row ∷ rows) e l h = (
  subst (λ (dims : List Dimension). IsTrue (is_inside (bounds_of dims) (numbers_at places row.at.items))) (sym e) (named_inside schema.dimensions places row.at.items h.0 l),
  all_named schema target places rows e l h.1,
)

-- each set of an aggregate lies within its schema
pub aggregate_fits : (schema target : Schema) (gs : List Aggregate) (places : List ℕ) (rows : List Row) → AreRowsOf schema rows → target ≡ aggregate_schema gs places schema → IsTrue (are_below (length schema.dimensions) places)
    → (c : Coordinate) → IsSetFor schema.attributes target c (aggregate_sets places rows c)
aggregate_fits schema target gs [] rows are e l c =
    subst (λ (s : Schema). IsSetFor schema.attributes s c (one_set (pos 0 ∷ []) rows c)) (sym e) (cases (row_major (pos 0 ∷ []) c) refl)
  where
    cases : (o : Ordering) → row_major (pos 0 ∷ []) c ≡ o → IsSetFor schema.attributes (aggregate_schema gs [] schema) c (cond (is_eq o) (Some rows) None)
    cases Less f = tt
    cases Greater f = tt
    cases Equal f = (subst (λ (d : Coordinate). IsTrue (is_inside (bounds_of (group_dimensions [] schema.dimensions)) d)) (row_major_exact (pos 0 ∷ []) c f) refl, are.kinds)
aggregate_fits schema target gs (d ∷ places) rows are e l c =
    set_fits schema.attributes target (numbers_at (d ∷ places)) rows c (all_named schema target (d ∷ places) rows (ap (λ (s : Schema). s.dimensions) e) l are.are_rows.in_bounds) are.kinds
