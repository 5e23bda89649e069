-- The schema of a plan.
use Rattle.std.specs.Prelude.{ℕ, zero, suc, ◌+◌, ℤ, pos, ◌-ℤ◌, if◌then◌else◌, true, List, [], ◌∷◌}
use Rattle.std.specs.Prelude.{◌++◌, map, length, take, drop, slice_get, codes, Option, Some}
use Rattle.std.specs.Int.{int_max, int_min, w64, saturate_signed}
use Rattle.std.specs.Fmt.{decimal}
use Rattle.std.specs.List.{flat_map}
use Rattle.cell_values.specs.declared.schema.Attribute.{Attribute}
use Rattle.cell_values.specs.declared.schema.Bounds.{Bounds}
use Rattle.cell_values.specs.declared.schema.Dimension.{Dimension}
use Rattle.cell_values.specs.declared.schema.Kind.{Kind}
use Rattle.cell_values.specs.declared.schema.Kind.TheVariants.{Int64}
use Rattle.cell_values.specs.declared.schema.Schema.{Schema}
use Rattle.cell_values.specs.Schemas.{attribute_names, dimension_names, greatest_bound, is_among}
use Rattle.array_rows.specs.Boxes.{by_pairs}
use Rattle.logical_plan.specs.declared.parts.AggFunction.{AggFunction}
use Rattle.logical_plan.specs.declared.parts.AggFunction.TheVariants.{Sum, Count, CountAll, Min, Max}
use Rattle.logical_plan.specs.declared.parts.Aggregate.{Aggregate}
use Rattle.logical_plan.specs.declared.parts.Applied.{Applied}
use Rattle.logical_plan.specs.declared.parts.Fixed.{Fixed}
use Rattle.logical_plan.specs.declared.parts.Pair.{Pair}
use Rattle.logical_plan.specs.BoxOps.{items_at, items_but, fixed_places}
use Rattle.logical_plan.specs.Groups.{block}
use Rattle.logical_plan.specs.Joins.{right_places}
use Rattle.logical_plan.specs.ShapeSchemas.{transpose_schema, xgrid_schema, merge_schema, concat_schema}
use Rattle.logical_plan.specs.Query.{Query, built, listed, scanned, filtered, applied, projected, between, subarray}
use Rattle.logical_plan.specs.Query.{sliced, joined, crossed, redimensioned, regridded, windowed, aggregated}
use Rattle.logical_plan.specs.Query.{sorted, ranked, cumulated, transposed, reversed, unpacked, xgridded, merged, concatenated}

-- ---- attributes

-- a value that a plan computes may be null
abbrev pub derived : List ℕ → Kind → Attribute
derived name kind = record { name = name; kind = kind; nullable = true }

-- the least and the greatest are of the attribute's kind, totals and numbers are `int64`
abbrev pub result_kind : AggFunction → Option Attribute → Kind
result_kind Min (Some attribute) = attribute.kind
result_kind Max (Some attribute) = attribute.kind
result_kind f attribute = Int64

abbrev pub aggregate_kind : List Attribute → Aggregate → Kind
aggregate_kind attributes g = result_kind g.function (slice_get attributes g.attribute)

abbrev pub aggregate_attributes : List Attribute → List Aggregate → List Attribute
aggregate_attributes attributes gs = map (λ g. derived g.name (aggregate_kind attributes g)) gs

-- the name of an aggregate of an attribute that is given none
abbrev pub default_name : AggFunction → List ℕ → List ℕ
default_name Sum name = name ++ codes "_sum"
default_name Count name = name ++ codes "_count"
default_name CountAll name = codes "count"
default_name Min name = name ++ codes "_min"
default_name Max name = name ++ codes "_max"

-- ---- dimensions

-- the part of a dimension between two numbers, moved to 0. Beyond 64 bits, where no valid schema comes, the length stays at the limit
abbrev pub from_zero : Dimension → ℤ → ℤ → Dimension
from_zero d low high = record {
  name = d.name;
  lo = pos 0;
  hi = saturate_signed w64 (int_min d.hi high -ℤ int_max d.lo low);
  chunk = d.chunk;
  overlap = d.overlap;
}

abbrev pub subarray_dimensions : List Dimension → List ℤ → List ℤ → List Dimension
subarray_dimensions [] lo hi = []
subarray_dimensions (d ∷ dims) [] hi = []
subarray_dimensions (d ∷ dims) (low ∷ lo) [] = []
subarray_dimensions (d ∷ dims) (low ∷ lo) (high ∷ hi) = from_zero d low high ∷ subarray_dimensions dims lo hi

-- the blocks along a dimension, from that of the low bound, which keeps its number, to that of the high bound
abbrev pub in_blocks : Dimension → ℕ → Dimension
in_blocks d size = record {
  name = d.name;
  lo = d.lo;
  hi = saturate_signed w64 (block d.lo size d.hi);
  chunk = d.chunk;
  overlap = 0;
}

abbrev pub without_overlap : Dimension → Dimension
without_overlap d = record { name = d.name; lo = d.lo; hi = d.hi; chunk = d.chunk; overlap = 0 }

-- `i=0:0,1,0`
abbrev pub one_place : Dimension
one_place = record { name = codes "i"; lo = pos 0; hi = pos 0; chunk = 1; overlap = 0 }

-- the named dimensions, or one place for all cells
abbrev pub group_dimensions : List ℕ → List Dimension → List Dimension
group_dimensions [] dims = one_place ∷ []
group_dimensions (d ∷ places) dims = map without_overlap (items_at (d ∷ places) dims)

-- ---- names of two arrays side by side

abbrev pub with_suffix : List ℕ → ℕ → List ℕ
with_suffix name k = name ++ codes "_" ++ decimal k

-- the name with the first suffix from `_k` on that is free, of n suffixes and the one after them
abbrev pub free_from : ℕ → ℕ → List (List ℕ) → List ℕ → List ℕ
free_from zero k given name = with_suffix name k
free_from (suc n) k given name = if is_among (with_suffix name k) given then free_from n (k + 1) given name else with_suffix name k

-- the name itself, or where it is already given with the least suffix `_k` from 2 that is free
abbrev pub free_name : List (List ℕ) → List ℕ → List ℕ
free_name given name = if is_among name given then free_from (length given) 2 given name else name

-- names given one after the other
abbrev pub free_names : List (List ℕ) → List (List ℕ) → List (List ℕ)
free_names given [] = []
free_names given (name ∷ names) = free_name given name ∷ free_names (given ++ free_name given name ∷ []) names

abbrev pub renamed_dimension : Dimension → List ℕ → Dimension
renamed_dimension d name = record { name = name; lo = d.lo; hi = d.hi; chunk = d.chunk; overlap = d.overlap }

abbrev pub renamed_attribute : Attribute → List ℕ → Attribute
renamed_attribute a name = record { name = name; kind = a.kind; nullable = a.nullable }

-- these dimensions, and then these attributes, under free names
abbrev pub with_free_names : List Dimension → List Attribute → List (List ℕ) → Schema
with_free_names dims attributes names = record {
  attributes = by_pairs renamed_attribute attributes (drop (length dims) names);
  dimensions = by_pairs renamed_dimension dims (take (length dims) names);
}

abbrev pub side_by_side : List Dimension → List Attribute → Schema
side_by_side dims attributes = with_free_names dims attributes (free_names [] (dimension_names dims ++ attribute_names attributes))

-- the left's dimensions, and the attributes of both
abbrev pub join_schema : Schema → Schema → Schema
join_schema left right = side_by_side left.dimensions (left.attributes ++ right.attributes)

-- the left's dimensions and those of the right that are not paired, and the attributes of both
abbrev pub cross_schema : List Pair → Schema → Schema → Schema
cross_schema pairs left right =
    side_by_side (left.dimensions ++ items_but (right_places pairs) 0 right.dimensions) (left.attributes ++ right.attributes)

-- ---- operators

abbrev pub apply_schema : List Applied → Schema → Schema
apply_schema values source = record { attributes = source.attributes ++ map (λ a. derived a.name a.kind) values; dimensions = source.dimensions }

abbrev pub project_schema : List ℕ → Schema → Schema
project_schema places source = record { attributes = items_at places source.attributes; dimensions = source.dimensions }

abbrev pub subarray_schema : Bounds → Schema → Schema
subarray_schema area source = record { attributes = source.attributes; dimensions = subarray_dimensions source.dimensions area.lo.items area.hi.items }

abbrev pub slice_schema : List Fixed → Schema → Schema
slice_schema fixed source = record { attributes = source.attributes; dimensions = items_but (fixed_places fixed) 0 source.dimensions }

abbrev pub regrid_schema : List ℕ → List Aggregate → Schema → Schema
regrid_schema sizes gs source = record { attributes = aggregate_attributes source.attributes gs; dimensions = by_pairs in_blocks source.dimensions sizes }

abbrev pub window_schema : List Aggregate → Schema → Schema
window_schema gs source = record { attributes = aggregate_attributes source.attributes gs; dimensions = source.dimensions }

abbrev pub aggregate_schema : List Aggregate → List ℕ → Schema → Schema
aggregate_schema gs places source = record { attributes = aggregate_attributes source.attributes gs; dimensions = group_dimensions places source.dimensions }

-- `n=0:*,1000,0`, where `n` is no attribute's name, else with the least suffix that is free
abbrev pub sort_dimension : List Attribute → Dimension
sort_dimension attributes = record {
  name = free_name (attribute_names attributes) (codes "n");
  lo = pos 0;
  hi = pos greatest_bound;
  chunk = 1000;
  overlap = 0;
}

abbrev pub sort_schema : Schema → Schema
sort_schema source = record { attributes = source.attributes; dimensions = sort_dimension source.attributes ∷ [] }

-- the name of the rank of an attribute. Beyond 64 bytes, where no typed plan comes, the rest is left out
abbrev pub rank_name : List ℕ → List ℕ
rank_name name = take 64 (name ++ codes "_rank")

-- an attribute and its rank
abbrev pub with_rank : List Attribute → List Attribute
with_rank attributes = flat_map (λ a. a ∷ derived (rank_name a.name) Int64 ∷ []) attributes

abbrev pub rank_schema : ℕ → Schema → Schema
rank_schema x source = record { attributes = with_rank (items_at (x ∷ []) source.attributes); dimensions = source.dimensions }

abbrev pub cumulate_schema : List Aggregate → Schema → Schema
cumulate_schema = window_schema

-- joins, redimension, sort and unpack carry the schema of their result
abbrev pub schema_of : Query → Schema
schema_of (built schema e) = schema
schema_of (listed schema rows) = schema
schema_of (scanned leaf) = leaf.schema
schema_of (filtered source test) = schema_of source
schema_of (applied source values) = apply_schema values (schema_of source)
schema_of (projected source places) = project_schema places (schema_of source)
schema_of (between source area) = schema_of source
schema_of (subarray source area) = subarray_schema area (schema_of source)
schema_of (sliced source fixed) = slice_schema fixed (schema_of source)
schema_of (joined left right schema) = schema
schema_of (crossed left right pairs schema) = schema
schema_of (redimensioned source schema gs) = schema
schema_of (regridded source sizes gs) = regrid_schema sizes gs (schema_of source)
schema_of (windowed source reach gs) = window_schema gs (schema_of source)
schema_of (aggregated source gs places) = aggregate_schema gs places (schema_of source)
schema_of (sorted source keys schema) = schema
schema_of (ranked source x dims) = rank_schema x (schema_of source)
schema_of (cumulated source gs n) = cumulate_schema gs (schema_of source)
schema_of (transposed source) = transpose_schema (schema_of source)
schema_of (reversed source) = schema_of source
schema_of (unpacked source schema) = schema
schema_of (xgridded source sizes) = xgrid_schema sizes (schema_of source)
schema_of (merged left right) = merge_schema (schema_of left) (schema_of right)
schema_of (concatenated left right) = concat_schema (schema_of left) (schema_of right)
