-- The values that a target takes are of its kinds.
use Rattle.std.proofs.Common.{◌≡◌, ℕ, zero, suc, pos, Bool, true, false, ◌&&◌, ◌||◌, IsTrue, List, [], ◌∷◌, map, Option, Some, None, slice_get, refl, sym, subst}
use Rattle.std.specs.List.{list_all}
use Rattle.std.specs.Prelude.{int_le, slice_index_or}
use Rattle.cell_values.specs.declared.datum.Cell.{Cell}
use Rattle.cell_values.specs.declared.datum.Cell.TheVariants.{Full, Doubt}
use Rattle.cell_values.specs.declared.datum.Datum.{Datum}
use Rattle.cell_values.specs.declared.datum.Datum.TheVariants.{Null, Int}
use Rattle.cell_values.specs.declared.schema.Attribute.{Attribute}
use Rattle.cell_values.specs.declared.schema.Dimension.{Dimension}
use Rattle.cell_values.specs.declared.schema.Kind.{Kind}
use Rattle.cell_values.specs.declared.schema.Kind.TheVariants.{Int64, Str, Bool as Truths}
use Rattle.cell_values.specs.declared.schema.Schema.{Schema}
use Rattle.cell_values.specs.Cells.{is_of_kind, AreOfKinds, IsCellOf}
use Rattle.cell_values.specs.Schemas.{IsValid, has_attributes, has_dimensions, are_distinct, names_of, frame_fits, is_dimension, is_bound, bounds_in_range, bounds_in_order, has_chunk, overlap_fits}
use Rattle.cell_values.specs.Table.{fits_int64}
use Rattle.array_geom.proofs.TestLaws.{and_parts, and_both}
use Rattle.array_rows.specs.Boxes.{is_inside, bounds_of}
use Rattle.array_rows.specs.Rows.{Coordinate}
use Rattle.expr_nulls.specs.Typing.{same_kind}
use Rattle.logical_plan.proofs.BuiltRows.{between_fits}
use Rattle.logical_plan.specs.Redimension.{Origin, from_dimension, from_attribute, counted, target_value, carried_cell}
use Rattle.logical_plan.specs.Typing.{is_of_some_kind, is_origin}

abbrev HasKind : Kind → Datum → Type 0
HasKind kind v = IsTrue (is_of_kind kind v)

-- ---- numbers of coordinates fit 64 bits

dimension_bounds : (d : Dimension) → is_dimension d ≡ true → (is_bound d.lo ≡ true) × (is_bound d.hi ≡ true)
dimension_bounds d v =
    let a = and_parts (bounds_in_range d && bounds_in_order d && has_chunk d) (overlap_fits d) v in
    let b = and_parts (bounds_in_range d && bounds_in_order d) (has_chunk d) a.0 in
    let e = and_parts (bounds_in_range d) (bounds_in_order d) b.0 in
    and_parts (is_bound d.lo) (is_bound d.hi) e.0

pub valid_dimensions : (schema : Schema) → IsValid schema → list_all is_dimension schema.dimensions ≡ true
valid_dimensions schema v =
    let a = and_parts (has_attributes schema.attributes && has_dimensions schema.dimensions && are_distinct (names_of schema) && list_all is_dimension schema.dimensions) (frame_fits schema.dimensions) v in
    (and_parts (has_attributes schema.attributes && has_dimensions schema.dimensions && are_distinct (names_of schema)) (list_all is_dimension schema.dimensions) a.0).1

pub inside_fits : (dims : List Dimension) (c : Coordinate) → list_all is_dimension dims ≡ true → is_inside (bounds_of dims) c ≡ true → list_all fits_int64 c ≡ true
inside_fits [] [] v i = refl
inside_fits [] (x ∷ c) v i = cc
inside_fits (d ∷ dims) [] v i = cc
inside_fits (d ∷ dims) (x ∷ c) v i =
    let valid = and_parts (is_dimension d) (list_all is_dimension dims) v in
    let inside = and_parts (int_le d.lo x && int_le x d.hi) (is_inside (bounds_of dims) c) i in
    let ends = and_parts (int_le d.lo x) (int_le x d.hi) inside.0 in
    let bounds = dimension_bounds d valid.0 in
    and_both (fits_int64 x) (list_all fits_int64 c) (between_fits d.lo d.hi x bounds.0 bounds.1 ends.0 ends.1) (inside_fits dims c valid.1 inside.1)

number_fits : (c : Coordinate) (place : ℕ) → list_all fits_int64 c ≡ true → HasKind Int64 (Int (slice_index_or c place (pos 0)))
number_fits [] place h = refl
number_fits (x ∷ c) zero h = (and_parts (fits_int64 x) (list_all fits_int64 c) h).0
number_fits (x ∷ c) (suc place) h = number_fits c place (and_parts (fits_int64 x) (list_all fits_int64 c) h).1

-- ---- values of the target's kinds

pub same : (j k : Kind) → same_kind j k ≡ true → j ≡ k
same Int64 Int64 e = refl
same Str Str e = refl
same Truths Truths e = refl
same Int64 Str e = cc
same Int64 Truths e = cc
same Str Int64 e = cc
same Str Truths e = cc
same Truths Int64 e = cc
same Truths Str e = cc

or_none : (b : Bool) → (b || false) ≡ true → b ≡ true
or_none true e = refl
or_none false e = cc

null_has_kind : (kind : Kind) → HasKind kind Null
null_has_kind Int64 = refl
null_has_kind Str = refl
null_has_kind Truths = refl

abbrev HasKindOf : Option Attribute → Datum → Type 0
HasKindOf (Some a) v = HasKind a.kind v
HasKindOf None v = ⊥

value_at : (attributes : List Attribute) (vs : List Datum) (x : ℕ) (a : Attribute) → AreOfKinds attributes vs → slice_get attributes x ≡ Some a → HasKind a.kind (slice_index_or vs x Null)
value_at [] [] x a h e = null_has_kind a.kind
value_at [] (v ∷ vs) x a h e = absurd h
value_at (b ∷ attributes) [] x a h e = absurd h
value_at (b ∷ attributes) (v ∷ vs) zero a h e = subst (λ (o : Option Attribute). HasKindOf o v) e h.0
value_at (b ∷ attributes) (v ∷ vs) (suc x) a h e = value_at attributes vs x a h.1 e

attribute_value : (attributes : List Attribute) (vs : List Datum) (place : ℕ) (kind : Kind) → AreOfKinds attributes vs → is_of_some_kind (kind ∷ []) (slice_get attributes place) ≡ true
    → HasKind kind (slice_index_or vs place Null)
attribute_value attributes vs place kind h t = cases (slice_get attributes place) refl t
  where
    cases : (o : Option Attribute) → slice_get attributes place ≡ o → is_of_some_kind (kind ∷ []) o ≡ true → HasKind kind (slice_index_or vs place Null)
    cases None e f = cc
    cases (Some a) e f = subst (λ (k : Kind). HasKind k (slice_index_or vs place Null)) (same a.kind kind (or_none (same_kind a.kind kind) f)) (value_at attributes vs place a h e)

origin_value : (attributes : List Attribute) (c : Coordinate) (vs : List Datum) (kind : Kind) (o : Origin) → list_all fits_int64 c ≡ true → AreOfKinds attributes vs → is_origin attributes kind o ≡ true
    → HasKind kind (target_value c vs o)
origin_value attributes c vs kind (from_attribute place) n h t = attribute_value attributes vs place kind h t
origin_value attributes c vs kind (from_dimension place) n h t = subst (λ (k : Kind). HasKind k (Int (slice_index_or c place (pos 0)))) (sym (same kind Int64 t)) (number_fits c place n)
origin_value attributes c vs kind (counted lo) n h t = cc

values_fit : (attributes : List Attribute) (origin : Attribute → Origin) (target : List Attribute) (c : Coordinate) (vs : List Datum) → list_all fits_int64 c ≡ true → AreOfKinds attributes vs
    → list_all (λ a. is_origin attributes a.kind (origin a)) target ≡ true → AreOfKinds target (map (target_value c vs) (map origin target))
values_fit attributes origin [] c vs n h t = tt
values_fit attributes origin (a ∷ target) c vs n h t =
    let each = and_parts (is_origin attributes a.kind (origin a)) (list_all (λ b. is_origin attributes b.kind (origin b)) target) t in
    (origin_value attributes c vs a.kind (origin a) n h each.0, values_fit attributes origin target c vs n h each.1)

pub carried_fits : (attributes : List Attribute) (origin : Attribute → Origin) (target : List Attribute) (c : Coordinate) (cell : Cell) → list_all fits_int64 c ≡ true → IsCellOf attributes cell
    → list_all (λ a. is_origin attributes a.kind (origin a)) target ≡ true → IsCellOf target (carried_cell (map origin target) c cell)
carried_fits attributes origin target c (Full vs) n h t = values_fit attributes origin target c vs n h t
carried_fits attributes origin target c (Doubt kind) n h t = tt
