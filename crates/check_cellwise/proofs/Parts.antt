-- The schemas of parts and slices of an array are valid.
use Rattle.std.proofs.Common.{◌≡◌, ℕ, suc, ◌+◌, ◌≤◌, ◌==◌, ℤ, Bool, true, false, not, cond, ◌&&◌, List, [], ◌∷◌, ◌++◌, length, refl, ap, ◌∙◌, arith}
use Rattle.std.specs.Prelude.{nat_le}
use Rattle.std.specs.List.{list_any, list_all}
use Rattle.std.specs.Str.{bytes_eq}
use Rattle.std.proofs.lemmas.Bool.{and_parts, and_from, or_parts, not-true, leb-true}
use Rattle.cell_values.specs.declared.schema.Dimension.{Dimension}
use Rattle.cell_values.specs.declared.schema.Schema.{Schema}
use Rattle.cell_values.specs.Schemas.{IsValid, attribute_names, dimension_names, is_among, are_distinct, is_dimension, bounds_in_range, bounds_in_order, has_chunk, overlap_fits}
use Rattle.array_rows.specs.Boxes.{by_pairs}
use Rattle.logical_plan.specs.BoxOps.{items_but}
use Rattle.logical_plan.specs.PlanSchema.{from_zero, subarray_dimensions}
use Rattle.check_rules.proofs.OperatorsHolding.{IsWithin}
use Rattle.check_rules.proofs.Names.{distinct_behind, or_none}
use Rattle.check_rules.proofs.ValidSchemas.{valid_parts, valid_of_parts, has_some}

pub length_pairs : {A B C : Type 0} (f : A → B → C) (xs : List A) (ys : List B) → length xs ≤ length ys → length (by_pairs f xs ys) ≡ length xs
length_pairs f [] ys h = refl
length_pairs f (x ∷ xs) [] h = absurd (omega (arith, h))
length_pairs f (x ∷ xs) (y ∷ ys) h = ap suc (length_pairs f xs ys (omega (arith, h)))

-- what is left of dimensions

among_but : (places : List ℕ) (n : ℕ) (dims : List Dimension) (name : List ℕ) → is_among name (dimension_names dims) ≡ false → is_among name (dimension_names (items_but places n dims)) ≡ false
among_but places n [] name e = refl
among_but places n (d ∷ dims) name e =
    let parts = or_parts (bytes_eq name d.name) (is_among name (dimension_names dims)) e in
    by_test (list_any (λ place. place == n) places) parts.0 (among_but places (n + 1) dims name parts.1)
  where
    by_test : (b : Bool) → bytes_eq name d.name ≡ false → is_among name (dimension_names (items_but places (n + 1) dims)) ≡ false
        → is_among name (dimension_names (cond b (items_but places (n + 1) dims) (d ∷ items_but places (n + 1) dims))) ≡ false
    by_test true first rest = rest
    by_test false first rest = or_none (bytes_eq name d.name) (is_among name (dimension_names (items_but places (n + 1) dims))) first rest

distinct_but : (places : List ℕ) (n : ℕ) (dims : List Dimension) → are_distinct (dimension_names dims) ≡ true → are_distinct (dimension_names (items_but places n dims)) ≡ true
distinct_but places n [] e = refl
distinct_but places n (d ∷ dims) e =
    let parts = and_parts (not (is_among d.name (dimension_names dims))) (are_distinct (dimension_names dims)) e in
    by_test (list_any (λ place. place == n) places) (among_but places (n + 1) dims d.name (not-true (is_among d.name (dimension_names dims)) parts.0)) (distinct_but places (n + 1) dims parts.1)
  where
    by_test : (b : Bool) → is_among d.name (dimension_names (items_but places (n + 1) dims)) ≡ false → are_distinct (dimension_names (items_but places (n + 1) dims)) ≡ true
        → are_distinct (dimension_names (cond b (items_but places (n + 1) dims) (d ∷ items_but places (n + 1) dims))) ≡ true
    by_test true first rest = rest
    by_test false first rest = and_from (not (is_among d.name (dimension_names (items_but places (n + 1) dims)))) (are_distinct (dimension_names (items_but places (n + 1) dims))) (ap not first) rest

all_but : (p : Dimension → Bool) (places : List ℕ) (n : ℕ) (dims : List Dimension) → list_all p dims ≡ true → list_all p (items_but places n dims) ≡ true
all_but p places n [] e = refl
all_but p places n (d ∷ dims) e =
    let parts = and_parts (p d) (list_all p dims) e in
    by_test (list_any (λ place. place == n) places) parts.0 (all_but p places (n + 1) dims parts.1)
  where
    by_test : (b : Bool) → p d ≡ true → list_all p (items_but places (n + 1) dims) ≡ true → list_all p (cond b (items_but places (n + 1) dims) (d ∷ items_but places (n + 1) dims)) ≡ true
    by_test true first rest = rest
    by_test false first rest = and_from (p d) (list_all p (items_but places (n + 1) dims)) first rest

pub slice_valid : (s : Schema) (places : List ℕ) → IsValid s → 1 ≤ length (items_but places 0 s.dimensions) → IsWithin (record { attributes = s.attributes; dimensions = items_but places 0 s.dimensions })
    → IsValid (record { attributes = s.attributes; dimensions = items_but places 0 s.dimensions })
slice_valid s places valid some within =
    let p = valid_parts s valid in
    valid_of_parts (record { attributes = s.attributes; dimensions = items_but places 0 s.dimensions }) (record {
      attributes = p.attributes;
      dimensions = has_some (items_but places 0 s.dimensions) 6 some within.dimensions;
      distinct = distinct_behind (attribute_names s.attributes) (dimension_names s.dimensions) (dimension_names (items_but places 0 s.dimensions)) (among_but places 0 s.dimensions) (distinct_but places 0 s.dimensions) p.distinct;
      each = all_but is_dimension places 0 s.dimensions p.each;
      frames = within.frames;
    })

-- parts of dimensions

names_kept : (dims : List Dimension) (lo hi : List ℤ) → length lo ≡ length dims → length hi ≡ length dims → dimension_names (subarray_dimensions dims lo hi) ≡ dimension_names dims
names_kept [] lo hi e f = refl
names_kept (d ∷ dims) [] hi e f = absurd (omega (arith, e))
names_kept (d ∷ dims) (l ∷ lo) [] e f = absurd (omega (arith, f))
names_kept (d ∷ dims) (l ∷ lo) (h ∷ hi) e f = ap (λ ns. d.name ∷ ns) (names_kept dims lo hi (omega (arith, e)) (omega (arith, f)))

length_kept : (dims : List Dimension) (lo hi : List ℤ) → length lo ≡ length dims → length hi ≡ length dims → length (subarray_dimensions dims lo hi) ≡ length dims
length_kept [] lo hi e f = refl
length_kept (d ∷ dims) [] hi e f = absurd (omega (arith, e))
length_kept (d ∷ dims) (l ∷ lo) [] e f = absurd (omega (arith, f))
length_kept (d ∷ dims) (l ∷ lo) (h ∷ hi) e f = ap suc (length_kept dims lo hi (omega (arith, e)) (omega (arith, f)))

parts_fit : (dims : List Dimension) (lo hi : List ℤ) → list_all is_dimension dims ≡ true → list_all bounds_in_order (subarray_dimensions dims lo hi) ≡ true → list_all bounds_in_range (subarray_dimensions dims lo hi) ≡ true
    → list_all is_dimension (subarray_dimensions dims lo hi) ≡ true
parts_fit [] lo hi all order range = refl
parts_fit (d ∷ dims) [] hi all order range = refl
parts_fit (d ∷ dims) (l ∷ lo) [] all order range = refl
parts_fit (d ∷ dims) (l ∷ lo) (h ∷ hi) all order range =
    let x = from_zero d l h in
    let a = and_parts (is_dimension d) (list_all is_dimension dims) all in
    let b = and_parts (bounds_in_order x) (list_all bounds_in_order (subarray_dimensions dims lo hi)) order in
    let c = and_parts (bounds_in_range x) (list_all bounds_in_range (subarray_dimensions dims lo hi)) range in
    let p = and_parts (bounds_in_range d && bounds_in_order d && has_chunk d) (overlap_fits d) a.0 in
    let q = and_parts (bounds_in_range d && bounds_in_order d) (has_chunk d) p.0 in
    and_from (is_dimension x) (list_all is_dimension (subarray_dimensions dims lo hi))
    (and_from (bounds_in_range x && bounds_in_order x && has_chunk x) (overlap_fits x) (and_from (bounds_in_range x && bounds_in_order x) (has_chunk x) (and_from (bounds_in_range x) (bounds_in_order x) c.0 b.0) q.1) p.1)
    (parts_fit dims lo hi a.1 b.1 c.1)

pub part_valid : (s : Schema) (lo hi : List ℤ) → IsValid s → length lo ≡ length s.dimensions → length hi ≡ length s.dimensions
    → list_all bounds_in_order (subarray_dimensions s.dimensions lo hi) ≡ true → list_all bounds_in_range (subarray_dimensions s.dimensions lo hi) ≡ true
    → IsWithin (record { attributes = s.attributes; dimensions = subarray_dimensions s.dimensions lo hi })
    → IsValid (record { attributes = s.attributes; dimensions = subarray_dimensions s.dimensions lo hi })
part_valid s lo hi valid e f order range within =
    let p = valid_parts s valid in
    let parts = subarray_dimensions s.dimensions lo hi in
    let some = and_parts (nat_le 1 (length s.dimensions)) (nat_le (length s.dimensions) 6) p.dimensions in
    let one : 1 ≤ length s.dimensions = leb-true 1 (length s.dimensions) some.0 in
    let same = length_kept s.dimensions lo hi e f in
    valid_of_parts (record { attributes = s.attributes; dimensions = parts }) (record {
      attributes = p.attributes;
      dimensions = has_some parts 6 (omega (arith, one, same)) within.dimensions;
      distinct = ap (λ ns. are_distinct (attribute_names s.attributes ++ ns)) (names_kept s.dimensions lo hi e f) ∙ p.distinct;
      each = parts_fit s.dimensions lo hi p.each order range;
      frames = within.frames;
    })
