-- When a plan is typed: each expression is of its kind, each operator's own rules hold, the schemas that it carries are those of
-- its sources, and each new schema is valid.
use Rattle.std.specs.Prelude.{◌≡◌, ℕ, ◌+◌, ◌*◌, pos, ◌+ℤ◌, ◌-ℤ◌, int_le, unsigned_abs, max, Bool, true, false, not, ◌&&◌, ◌||◌}
use Rattle.std.specs.Prelude.{◌==◌, nat_lt, nat_le, List, [], ◌∷◌, map, length, slice_get, Option, Some, None, IsTrue}
use Rattle.std.specs.List.{AllByRecursion, list_any, list_all}
use Rattle.std.specs.Ordering.{int_eq}
use Rattle.cell_values.specs.declared.datum.Cell.{Cell}
use Rattle.cell_values.specs.declared.datum.Cell.TheVariants.{Full, Doubt}
use Rattle.cell_values.specs.declared.datum.Datum.{Datum}
use Rattle.cell_values.specs.declared.datum.Datum.TheVariants.{Bad}
use Rattle.cell_values.specs.declared.datum.Row.{Row}
use Rattle.cell_values.specs.declared.schema.Attribute.{Attribute}
use Rattle.cell_values.specs.declared.schema.Bounds.{Bounds}
use Rattle.cell_values.specs.declared.schema.Dimension.{Dimension}
use Rattle.cell_values.specs.declared.schema.Kind.{Kind}
use Rattle.cell_values.specs.declared.schema.Kind.TheVariants.{Int64, Str, Bool as Truths}
use Rattle.cell_values.specs.declared.schema.Schema.{Schema}
use Rattle.cell_values.specs.Nulls.{is_null}
use Rattle.cell_values.specs.Schemas.{IsValid, greatest_bound, attribute_names, is_among, are_distinct}
use Rattle.array_rows.specs.Arrays.{AreRowsOf}
use Rattle.expr_nulls.specs.Expr.{Expr, literal, conditional, coded_null}
use Rattle.expr_nulls.specs.Typing.{has_kind, same_kind}
use Rattle.logical_plan.specs.declared.parts.AggFunction.{AggFunction}
use Rattle.logical_plan.specs.declared.parts.AggFunction.TheVariants.{Sum, CountAll, Min, Max}
use Rattle.logical_plan.specs.declared.parts.Aggregate.{Aggregate}
use Rattle.logical_plan.specs.declared.parts.Applied.{Applied}
use Rattle.logical_plan.specs.declared.parts.Pair.{Pair}
use Rattle.logical_plan.specs.declared.parts.Reach.{Reach}
use Rattle.logical_plan.specs.BoxOps.{fixed_places}
use Rattle.logical_plan.specs.Joins.{right_places}
use Rattle.logical_plan.specs.PlanSchema.{schema_of, aggregate_kind, join_schema, cross_schema, sort_schema}
use Rattle.logical_plan.specs.Query.{Query, built, listed, scanned, filtered, applied, projected, between, subarray}
use Rattle.logical_plan.specs.Query.{sliced, joined, crossed, redimensioned, regridded, windowed, aggregated}
use Rattle.logical_plan.specs.Query.{sorted, ranked, cumulated, transposed, reversed, unpacked, xgridded, merged, concatenated}
use Rattle.logical_plan.specs.Shapes.{last_place}
use Rattle.logical_plan.specs.ShapeSchemas.{length_of, unpack_schema}
use Rattle.logical_plan.specs.Redimension.{Origin, from_dimension, from_attribute, counted, origin_of, value_origin, counted_places, named}

-- ---- expressions

abbrev pub kinds_of : List Attribute → List Kind
kinds_of = map (λ attribute. attribute.kind)

-- an expression over the cells of an array
abbrev pub is_over : Schema → Kind → Expr → Bool
is_over source kind e = has_kind (kinds_of source.attributes) (length source.dimensions) e kind

-- a null, a made null, or a choice of two such, which fits every kind
abbrev pub is_null_alone : Expr → Bool
is_null_alone (literal v) = is_null v
is_null_alone (coded_null e) = true
is_null_alone (conditional test a b) = is_null_alone a && is_null_alone b
is_null_alone e = false

-- ---- places

abbrev pub are_below : ℕ → List ℕ → Bool
are_below n = list_all (λ place. nat_lt place n)

-- no number comes twice
abbrev pub are_apart : List ℕ → Bool
are_apart [] = true
are_apart (n ∷ ns) = not (list_any (λ m. m == n) ns) && are_apart ns

-- ---- build and literals

-- the high bound is not `*`
abbrev pub is_bounded : Dimension → Bool
is_bounded d = not (int_eq d.hi (pos greatest_bound))

abbrev pub places_along : Dimension → ℕ
places_along d = unsigned_abs (d.hi -ℤ d.lo) + 1

abbrev pub places_in : List Dimension → ℕ
places_in [] = 1
places_in (d ∷ dims) = places_along d * places_in dims

-- one attribute, of whose kind the expression over the dimensions alone is
abbrev pub fits_one : List Attribute → ℕ → Expr → Bool
fits_one (a ∷ []) dims e = has_kind [] dims e a.kind
fits_one attributes dims e = false

-- at most 2^24 cells
abbrev pub builds : Schema → Expr → Bool
builds schema e = list_all is_bounded schema.dimensions && nat_le (places_in schema.dimensions) 16777216
    && fits_one schema.attributes (length schema.dimensions) e

-- a value without fault that is null only where it may be
abbrev pub may_stand : Attribute → Datum → Bool
may_stand attribute (Bad kind) = false
may_stand attribute v = not (is_null v) || attribute.nullable

abbrev pub may_all_stand : List Attribute → List Datum → Bool
may_all_stand (a ∷ attributes) (v ∷ vs) = may_stand a v && may_all_stand attributes vs
may_all_stand attributes vs = true

-- a cell as a stored array holds it: there, without a fault, and without a null where none may be
abbrev pub is_sound : List Attribute → Cell → Bool
is_sound attributes (Full vs) = may_all_stand attributes vs
is_sound attributes (Doubt kind) = false

abbrev pub AreSound : Schema → List Row → Type 0
AreSound schema rows = AllByRecursion (λ row. IsTrue (is_sound schema.attributes row.cell)) rows

-- ---- aggregates

-- an attribute of one of these kinds
abbrev pub is_of_some_kind : List Kind → Option Attribute → Bool
is_of_some_kind kinds (Some attribute) = list_any (same_kind attribute.kind) kinds
is_of_some_kind kinds None = false

-- the kinds of which the function takes values
abbrev pub kinds_for : AggFunction → List Kind
kinds_for Sum = Int64 ∷ []
kinds_for Min = Int64 ∷ Str ∷ []
kinds_for Max = Int64 ∷ Str ∷ []
kinds_for f = Int64 ∷ Str ∷ Truths ∷ []

-- `count(*)` has no attribute
abbrev pub takes : AggFunction → Option Attribute → Bool
takes CountAll attribute = true
takes f attribute = is_of_some_kind (kinds_for f) attribute

abbrev pub is_aggregate_of : List Attribute → Aggregate → Bool
is_aggregate_of attributes g = takes g.function (slice_get attributes g.attribute)

abbrev pub are_aggregates_of : List Attribute → List Aggregate → Bool
are_aggregates_of attributes = list_all (is_aggregate_of attributes)

abbrev pub aggregate_names : List Aggregate → List (List ℕ)
aggregate_names = map (λ g. g.name)

-- ---- boxes

-- a low and a high number for each dimension
abbrev pub is_box_of : Schema → Bounds → Bool
is_box_of source area = (length area.lo.items == length source.dimensions) && (length area.hi.items == length source.dimensions)

-- ---- joins

abbrev pub same_bounds : List Dimension → List Dimension → Bool
same_bounds [] [] = true
same_bounds (a ∷ left) (b ∷ right) = int_eq a.lo b.lo && int_eq a.hi b.hi && same_bounds left right
same_bounds left right = false

abbrev pub left_places : List Pair → List ℕ
left_places = map (λ p. p.left)

abbrev pub pairs_dimensions : List Pair → Schema → Schema → Bool
pairs_dimensions pairs left right =
    are_below (length left.dimensions) (left_places pairs) && are_apart (left_places pairs)
    && are_below (length right.dimensions) (right_places pairs) && are_apart (right_places pairs)

-- ---- redimension

-- an attribute of the source of its kind, or a dimension, which is `int64`
abbrev pub is_origin : List Attribute → Kind → Origin → Bool
is_origin attributes kind (from_attribute place) = is_of_some_kind (kind ∷ []) (slice_get attributes place)
is_origin attributes kind (from_dimension place) = same_kind kind Int64
is_origin attributes kind (counted lo) = false

abbrev pub is_kind_of : List Attribute → Kind → Option Aggregate → Bool
is_kind_of attributes kind (Some g) = same_kind (aggregate_kind attributes g) kind
is_kind_of attributes kind None = false

abbrev pub synthetic_count : Schema → Schema → ℕ
synthetic_count source target = length (counted_places (map (origin_of source) target.dimensions) 0)

-- without aggregates at most one dimension is synthetic, and each attribute comes from the source. With aggregates no dimension
-- is synthetic, and the attributes have their names and kinds, exactly
abbrev pub redimensions : Schema → Schema → List Aggregate → Bool
redimensions source target [] =
    nat_le (synthetic_count source target) 1 && list_all (λ a. is_origin source.attributes a.kind (value_origin source a)) target.attributes
redimensions source target gs =
    (synthetic_count source target == 0) && are_aggregates_of source.attributes gs && are_distinct (aggregate_names gs)
    && list_all (λ a. is_kind_of source.attributes a.kind (named gs a.name)) target.attributes
    && list_all (λ name. is_among name (attribute_names target.attributes)) (aggregate_names gs)

-- ---- regrid and window

-- a block of at least one place for each dimension
abbrev pub are_blocks_of : Schema → List ℕ → Bool
are_blocks_of source sizes = (length sizes == length source.dimensions) && list_all (λ size. nat_le 1 size) sizes

-- the places of a window
abbrev pub window_size : List Reach → ℕ
window_size [] = 1
window_size (r ∷ reach) = (r.before + r.after + 1) * window_size reach

-- the places of a chunk with what the windows of its cells reach
abbrev pub reached_size : List Dimension → List Reach → ℕ
reached_size (d ∷ dims) (r ∷ reach) = (d.chunk + 2 * max d.overlap (max r.before r.after)) * reached_size dims reach
reached_size dims reach = 1

-- at most 2^24 places, and 2^48 with the chunk
abbrev pub are_windows_of : Schema → List Reach → Bool
are_windows_of source reach =
    (length reach == length source.dimensions) && nat_le (window_size reach) 16777216 && nat_le (reached_size source.dimensions reach) 281474976710656

-- ---- sort, rank and cumulate

-- at least one attribute, none of them twice
abbrev pub are_keys_of : List Attribute → List ℕ → Bool
are_keys_of attributes keys = nat_le 1 (length keys) && are_below (length attributes) keys && are_apart keys

-- a number or a text, whose name leaves room for that of the rank
abbrev pub can_be_ranked : Option Attribute → Bool
can_be_ranked None = false
can_be_ranked (Some a) = is_of_some_kind (Int64 ∷ Str ∷ []) (Some a) && nat_le (length a.name + 5) 64

abbrev pub ranks : Schema → ℕ → List ℕ → Bool
ranks source x dims = can_be_ranked (slice_get source.attributes x) && are_below (length source.dimensions) dims && are_apart dims

abbrev pub cumulates : Schema → List Aggregate → ℕ → Bool
cumulates source gs n = are_aggregates_of source.attributes gs && nat_lt n (length source.dimensions)

-- ---- transpose, reverse, unpack, xgrid, merge and concat

abbrev pub are_bounded : List Dimension → Bool
are_bounded = list_all is_bounded

-- the name of the one dimension of an unpacked array
abbrev pub first_name : List Dimension → List ℕ
first_name [] = []
first_name (d ∷ dims) = d.name

abbrev pub product_of : List ℕ → ℕ
product_of [] = 1
product_of (n ∷ ns) = n * product_of ns

-- a block of at least one place for each dimension, with which the high bound is still a bound
abbrev pub can_enlarge : List Dimension → List ℕ → Bool
can_enlarge [] [] = true
can_enlarge (d ∷ dims) (size ∷ sizes) = nat_le 1 size && int_le (last_place d size d.hi) (pos greatest_bound) && can_enlarge dims sizes
can_enlarge dims sizes = false

-- at most 65,536 places for each place
abbrev pub enlarges : Schema → List ℕ → Bool
enlarges source sizes = can_enlarge source.dimensions sizes && nat_le (product_of sizes) 65536

abbrev pub same_kinds : List Attribute → List Attribute → Bool
same_kinds [] [] = true
same_kinds (a ∷ left) (b ∷ right) = same_kind a.kind b.kind && same_kinds left right
same_kinds left right = false

abbrev pub merges : Schema → Schema → Bool
merges left right = same_bounds left.dimensions right.dimensions && same_kinds left.attributes right.attributes

-- the left has an end in its first dimension, behind which the right has room; the bounds of the others are the same
abbrev pub can_follow : List Dimension → List Dimension → Bool
can_follow (l ∷ left) (r ∷ right) =
    is_bounded l && int_le (l.hi +ℤ pos (length_of r)) (pos greatest_bound) && same_bounds left right
can_follow left right = false

abbrev pub concatenates : Schema → Schema → Bool
concatenates left right = can_follow left.dimensions right.dimensions && same_kinds left.attributes right.attributes

-- ---- plans

-- the rules of an operator for sources of these schemas. A new schema's own rules stand below
abbrev pub fits_apply : Schema → List Applied → Bool
fits_apply source = list_all (λ a. is_over source a.kind a.value && not (is_null_alone a.value))

abbrev pub IsTyped : Query → Type 0
IsTyped (built schema e) = IsValid schema × IsTrue (builds schema e)
IsTyped (listed schema rows) = IsTrue (length schema.dimensions == 1) × AreRowsOf schema rows × AreSound schema rows
IsTyped (scanned leaf) = IsValid leaf.schema
IsTyped (filtered source test) = IsTyped source × IsTrue (is_over (schema_of source) Truths test)
IsTyped (applied source values) = IsTyped source × IsTrue (fits_apply (schema_of source) values) × IsValid (schema_of (applied source values))
IsTyped (projected source places) =
    IsTyped source × IsTrue (are_below (length (schema_of source).attributes) places) × IsValid (schema_of (projected source places))
IsTyped (between source area) = IsTyped source × IsTrue (is_box_of (schema_of source) area)
IsTyped (subarray source area) = IsTyped source × IsTrue (is_box_of (schema_of source) area) × IsValid (schema_of (subarray source area))
IsTyped (sliced source fixed) =
    IsTyped source × IsTrue (are_below (length (schema_of source).dimensions) (fixed_places fixed) && are_apart (fixed_places fixed))
    × IsValid (schema_of (sliced source fixed))
IsTyped (joined left right schema) =
    IsTyped left × IsTyped right × IsTrue (same_bounds (schema_of left).dimensions (schema_of right).dimensions)
    × (schema ≡ join_schema (schema_of left) (schema_of right)) × IsValid schema
IsTyped (crossed left right pairs schema) =
    IsTyped left × IsTyped right × IsTrue (pairs_dimensions pairs (schema_of left) (schema_of right))
    × (schema ≡ cross_schema pairs (schema_of left) (schema_of right)) × IsValid schema
IsTyped (redimensioned source schema gs) = IsTyped source × IsTrue (redimensions (schema_of source) schema gs) × IsValid schema
IsTyped (regridded source sizes gs) =
    IsTyped source × IsTrue (are_blocks_of (schema_of source) sizes && are_aggregates_of (schema_of source).attributes gs)
    × IsValid (schema_of (regridded source sizes gs))
IsTyped (windowed source reach gs) =
    IsTyped source × IsTrue (are_windows_of (schema_of source) reach && are_aggregates_of (schema_of source).attributes gs)
    × IsValid (schema_of (windowed source reach gs))
IsTyped (aggregated source gs places) =
    IsTyped source × IsTrue (are_below (length (schema_of source).dimensions) places && are_aggregates_of (schema_of source).attributes gs)
    × IsValid (schema_of (aggregated source gs places))
IsTyped (sorted source keys schema) =
    IsTyped source × IsTrue (are_keys_of (schema_of source).attributes keys) × (schema ≡ sort_schema (schema_of source)) × IsValid schema
IsTyped (ranked source x dims) = IsTyped source × IsTrue (ranks (schema_of source) x dims) × IsValid (schema_of (ranked source x dims))
IsTyped (cumulated source gs n) = IsTyped source × IsTrue (cumulates (schema_of source) gs n) × IsValid (schema_of (cumulated source gs n))
IsTyped (transposed source) = IsTyped source × IsValid (schema_of (transposed source))
IsTyped (reversed source) = IsTyped source × IsTrue (are_bounded (schema_of source).dimensions)
IsTyped (unpacked source schema) =
    IsTyped source × (schema ≡ unpack_schema (first_name schema.dimensions) (schema_of source)) × IsValid schema
IsTyped (xgridded source sizes) = IsTyped source × IsTrue (enlarges (schema_of source) sizes) × IsValid (schema_of (xgridded source sizes))
IsTyped (merged left right) =
    IsTyped left × IsTyped right × IsTrue (merges (schema_of left) (schema_of right)) × IsValid (schema_of (merged left right))
IsTyped (concatenated left right) =
    IsTyped left × IsTyped right × IsTrue (concatenates (schema_of left) (schema_of right)) × IsValid (schema_of (concatenated left right))
