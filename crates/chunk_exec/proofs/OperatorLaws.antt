-- What operators make of the arrays of their sources.
use Rattle.std.proofs.Common.{◌≡◌, ℕ, suc, zero, ◌≤◌, ◌^◌, List, [], ◌∷◌, length, Result, Ok, Err, refl, sym, ap, ◌∙◌, subst}
use Rattle.std.specs.Prelude.{IfOk}
use Rattle.cell_values.specs.declared.datum.Broken.{Broken}
use Rattle.cell_values.specs.declared.datum.Row.{Row}
use Rattle.cell_values.specs.declared.memory.Memory.{Memory}
use Rattle.cell_values.specs.declared.schema.Bounds.{Bounds}
use Rattle.cell_values.specs.declared.schema.Dimension.{Dimension}
use Rattle.cell_values.specs.declared.schema.Schema.{Schema}
use Rattle.cell_values.specs.Schemas.{IsValid}
use Rattle.array_rows.specs.Arrays.{Meant}
use Rattle.array_rows.specs.Boxes.{within}
use Rattle.array_geom.specs.declared.chunk.ChunkedArray.{ChunkedArray}
use Rattle.array_geom.specs.Geometry.{frame_lengths, volume}
use Rattle.array_geom.specs.Link.{AreChunksOf, HoldsRows, HoldsResult, Is}
use Rattle.array_parts.specs.Cores.{meant_by_cores}
use Rattle.array_parts.proofs.CoreLaws.{arrays_are_their_cores, arrays_have_cells}
use Rattle.exec_group.specs.Meant.{aggregate_meant, regrid_meant}
use Rattle.exec_join.specs.Meant.{cross_meant, join_meant}
use Rattle.window_overlap.specs.Meant.{window_meant}
use Rattle.exec_box.specs.Made.{GivesRows, IsMadeOf}
use Rattle.expr_nulls.specs.Expr.{Expr}
use Rattle.logical_plan.specs.declared.parts.Aggregate.{Aggregate}
use Rattle.logical_plan.specs.declared.parts.Applied.{Applied}
use Rattle.logical_plan.specs.declared.parts.Fixed.{Fixed}
use Rattle.logical_plan.specs.declared.parts.Leaf.{Leaf}
use Rattle.logical_plan.specs.declared.parts.Pair.{Pair}
use Rattle.logical_plan.specs.declared.parts.Reach.{Reach}
use Rattle.logical_plan.specs.CellOps.{filter_rows, apply_rows, project_rows}
use Rattle.logical_plan.specs.Faults.{if_whole}
use Rattle.logical_plan.specs.Meaning.{Database, redimensioned_from, sorted_from}
use Rattle.logical_plan.specs.PlanSchema.{apply_schema, project_schema, schema_of, subarray_schema, slice_schema, regrid_schema, window_schema, aggregate_schema, rank_schema, cumulate_schema}
use Rattle.logical_plan.specs.ShapeMeant.{concat_meant, merge_meant, reverse_meant, transpose_meant, unpack_meant, xgrid_meant}
use Rattle.logical_plan.specs.ShapeSchemas.{concat_schema, merge_schema, transpose_schema, xgrid_schema}
use Rattle.logical_plan.specs.Query.{Query, scanned, filtered, applied, projected, between, subarray, sliced, joined, crossed, redimensioned, regridded, windowed, aggregated}
use Rattle.logical_plan.specs.Query.{sorted, ranked, cumulated, transposed, reversed, unpacked, xgridded, merged, concatenated}
use Rattle.logical_plan.specs.Typing.{IsTyped}
use Rattle.logical_plan.proofs.ArrayLaws.{typed_arrays}
use Rattle.logical_plan.proofs.SchemaLaws.{typed_valid}
use Rattle.exec_box.specs.Parts.{part_meant, slice_meant}
use Rattle.order_exec.specs.Meant.{cumulate_meant, rank_meant}
use Rattle.chunk_exec.specs.Inner.Operated.{AreMeant, CanOperate, IsResultOf, operated}

-- ---- rows of the schemas of plans

-- a stored array of these rows
abbrev told_as : List Row → Database
told_as rows name version = rows

abbrev leaf_of : Schema → Leaf
leaf_of schema = record { name = []; version = suc zero; schema = schema }

gives_filter : (source : Query) (test : Expr) → IsTyped (filtered source test) → GivesRows (filter_rows test) (schema_of source) (schema_of (filtered source test))
gives_filter source test typed rows are = typed_arrays (told_as rows) (filtered (scanned (leaf_of (schema_of source))) test) refl (are.valid, typed.1) (are, tt)

gives_apply : (source : Query) (values : List Applied) → IsTyped (applied source values) → GivesRows (apply_rows values) (schema_of source) (schema_of (applied source values))
gives_apply source values typed rows are = typed_arrays (told_as rows) (applied (scanned (leaf_of (schema_of source))) values) refl (are.valid, typed.1, typed.2) (are, tt)

gives_project : (source : Query) (places : List ℕ) → IsTyped (projected source places) → GivesRows (project_rows places) (schema_of source) (schema_of (projected source places))
gives_project source places typed rows are = typed_arrays (told_as rows) (projected (scanned (leaf_of (schema_of source))) places) refl (are.valid, typed.1, typed.2) (are, tt)

gives_between : (source : Query) (area : Bounds) → IsTyped (between source area) → GivesRows (within area) (schema_of source) (schema_of (between source area))
gives_between source area typed rows are = typed_arrays (told_as rows) (between (scanned (leaf_of (schema_of source))) area) refl (are.valid, typed.1) (are, tt)

-- ---- an operator over an array

is_made : (operator : List Row → List Row) (schema : Schema) (array new : ChunkedArray) (source meant : Meant) → meant.schema ≡ schema → meant.rows ≡ if_whole operator source.rows → GivesRows operator source.schema schema → IsValid schema
    → schema.dimensions ≡ array.schema.dimensions → IsMadeOf operator schema array new → Is array source → Is new meant
is_made operator schema array new source meant s r gives valid d made is = record {
  schema = made.schema_is ∙ sym s;
  valid = subst IsValid (sym s) valid;
  margins = margins ∙ is.margins ∙ ap (λ (z : List Dimension). length z) dims ∙ ap (λ (z : Schema). length z.dimensions) (sym s);
  cells = subst (λ (z : Schema). HoldsResult z new meant.rows) (sym s) (cases source.rows r is.cells);
}
  where
    dims : source.schema.dimensions ≡ schema.dimensions
    dims = ap (λ (z : Schema). z.dimensions) (sym is.schema) ∙ sym d

    numbers : new.margins.items ≡ array.margins.items
    numbers = ap (λ m. m.items) made.margins

    margins : length new.margins.items ≡ length array.margins.items
    margins = ap (λ (z : List ℕ). length z) numbers

    held : (rows : List Row) → HoldsRows source.schema array rows → HoldsRows schema new (operator rows)
    held rows h =
        let chunks : AreChunksOf schema.dimensions array.margins.items rows array.chunks = subst (λ (z : List Dimension). AreChunksOf z array.margins.items rows array.chunks) dims h.chunks in
        let places : volume (frame_lengths schema.dimensions array.margins.items) ≤ 2 ^ 48 = subst (λ (z : List Dimension). volume (frame_lengths z array.margins.items) ≤ 2 ^ 48) dims h.places in
        record {
          whole = made.broken ∙ h.whole;
          rows_of = gives rows h.rows_of;
          each = margins ∙ h.each ∙ ap (λ (z : List Dimension). length z) dims;
          places = subst (λ (z : List ℕ). volume (frame_lengths schema.dimensions z) ≤ 2 ^ 48) (sym numbers) places;
          chunks = made.chunks h.whole rows (subst (λ (z : List ℕ). AreChunksOf schema.dimensions z rows array.chunks) (sym numbers) chunks);
        }

    cases : (z : Result (List Row) Broken) → meant.rows ≡ if_whole operator z → HoldsResult source.schema array z → HoldsResult schema new meant.rows
    cases (Ok rows) e h = subst (HoldsResult schema new) (sym e) (held rows h)
    cases (Err broken) e h = subst (HoldsResult schema new) (sym e) (made.broken ∙ h)

-- ---- answers

pub if_ok : {T E : Type 0} (P Q : T → Type 0) (answer : Result T E) → ((made : T) → P made → Q made) → IfOk answer P → IfOk answer Q
if_ok P Q (Ok made) follows h = follows made h
if_ok P Q (Err e) follows h = tt

-- what a plan's operator makes, where the plan is this one
pub of_this_plan : (plan query : Query) (arrays : List ChunkedArray) (P : ChunkedArray → Type 0) (answer : Result ChunkedArray Memory) → plan ≡ query → CanOperate plan arrays
    → ((made : ChunkedArray) → CanOperate query arrays → P made → IsResultOf query arrays made) → IfOk answer P → IfOk answer (IsResultOf plan arrays)
of_this_plan plan query arrays P answer is can follows h =
    let same : CanOperate query arrays = subst (λ (z : Query). CanOperate z arrays) is can in
    subst (λ (z : Query). IfOk answer (IsResultOf z arrays)) (sym is) (if_ok P (IsResultOf query arrays) answer (λ made m. follows made same m) h)

-- ---- the forms of operators

-- what holds of whatever an array stands for, and of whatever two stand for
of_one_meant : (array : ChunkedArray) (P : List Meant → Type 0) → ((m : Meant) → Is array m → P (m ∷ [])) → (meants : List Meant) → AreMeant (array ∷ []) meants → P meants
of_one_meant array P f [] z = absurd z
of_one_meant array P f (m ∷ []) z = f m z.0
of_one_meant array P f (m ∷ n ∷ meants) z = absurd z.1

of_two_meant : (a b : ChunkedArray) (P : List Meant → Type 0) → ((l r : Meant) → Is a l → Is b r → P (l ∷ r ∷ [])) → (meants : List Meant) → AreMeant (a ∷ b ∷ []) meants → P meants
of_two_meant a b P f [] z = absurd z
of_two_meant a b P f (l ∷ []) z = absurd z.1
of_two_meant a b P f (l ∷ r ∷ []) z = f l r z.0 z.1.0
of_two_meant a b P f (l ∷ r ∷ m ∷ meants) z = absurd z.1.1

-- chunk by chunk
by_chunks : (source query : Query) (operator : List Row → List Row) (array made : ChunkedArray)
    → ((m : Meant) → (operated query (m ∷ [])).rows ≡ if_whole operator m.rows) → ((m : Meant) → m.schema ≡ schema_of source → (operated query (m ∷ [])).schema ≡ schema_of query)
    → GivesRows operator (schema_of source) (schema_of query) → (schema_of query).dimensions ≡ (schema_of source).dimensions
    → CanOperate query (array ∷ []) → array.schema ≡ schema_of source → IsMadeOf operator (schema_of query) array made → IsResultOf query (array ∷ []) made
by_chunks source query operator array made rows schemas gives dims can schema m =
    let from : GivesRows operator array.schema (schema_of query) = subst (λ (z : Schema). GivesRows operator z (schema_of query)) (sym schema) gives in
    record {
      schema_is = m.schema_is;
      cells = m.cells from;
      means = of_one_meant array (λ meants. Is made (operated query meants)) (λ meant is.
          is_made operator (schema_of query) array made meant (operated query (meant ∷ [])) (schemas meant (sym is.schema ∙ schema)) (rows meant)
          (subst (λ (z : Schema). GivesRows operator z (schema_of query)) is.schema from) (typed_valid query can.typed)
          (dims ∙ ap (λ (z : Schema). z.dimensions) (sym schema)) m is);
    }

-- over the cores of an array
pub computed_by_cores : (query : Query) (operator : Meant → Meant) (array made : ChunkedArray) → ((m : Meant) → operated query (m ∷ []) ≡ operator m)
    → (operator (meant_by_cores array)).schema ≡ schema_of query → Is made (operator (meant_by_cores array)) → IsResultOf query (array ∷ []) made
computed_by_cores query operator array made meant schema is = record {
  schema_is = is.schema ∙ schema;
  cells = arrays_have_cells made (operator (meant_by_cores array)) is;
  means = of_one_meant array (λ meants. Is made (operated query meants)) (λ m h. subst (Is made) (ap operator (arrays_are_their_cores array m h) ∙ sym (meant m)) is);
}

-- over the cores of two arrays
pub computed_of_two : (query : Query) (operator : Meant → Meant → Meant) (a b made : ChunkedArray) → ((l r : Meant) → operated query (l ∷ r ∷ []) ≡ operator l r)
    → (operator (meant_by_cores a) (meant_by_cores b)).schema ≡ schema_of query → Is made (operator (meant_by_cores a) (meant_by_cores b)) → IsResultOf query (a ∷ b ∷ []) made
computed_of_two query operator a b made meant schema is = record {
  schema_is = is.schema ∙ schema;
  cells = arrays_have_cells made (operator (meant_by_cores a) (meant_by_cores b)) is;
  means = of_two_meant a b (λ meants. Is made (operated query meants)) (λ l r g h.
      subst (Is made) (ap (λ (z : Meant). operator z (meant_by_cores b)) (arrays_are_their_cores a l g) ∙ ap (operator l) (arrays_are_their_cores b r h) ∙ sym (meant l r)) is);
}

-- ---- operators chunk by chunk

pub filter_result : (source : Query) (test : Expr) (array made : ChunkedArray) → CanOperate (filtered source test) (array ∷ []) → IsMadeOf (filter_rows test) (schema_of (filtered source test)) array made → IsResultOf (filtered source test) (array ∷ []) made
filter_result source test array made can m = by_chunks source (filtered source test) (filter_rows test) array made (λ m. refl) (λ m e. e) (gives_filter source test can.typed) refl can can.schemas.0 m

pub apply_result : (source : Query) (values : List Applied) (array made : ChunkedArray) → CanOperate (applied source values) (array ∷ []) → IsMadeOf (apply_rows values) (schema_of (applied source values)) array made → IsResultOf (applied source values) (array ∷ []) made
apply_result source values array made can m = by_chunks source (applied source values) (apply_rows values) array made (λ m. refl) (λ m e. ap (apply_schema values) e) (gives_apply source values can.typed) refl can can.schemas.0 m

pub project_result : (source : Query) (places : List ℕ) (array made : ChunkedArray) → CanOperate (projected source places) (array ∷ []) → IsMadeOf (project_rows places) (schema_of (projected source places)) array made → IsResultOf (projected source places) (array ∷ []) made
project_result source places array made can m = by_chunks source (projected source places) (project_rows places) array made (λ m. refl) (λ m e. ap (project_schema places) e) (gives_project source places can.typed) refl can can.schemas.0 m

pub between_result : (source : Query) (area : Bounds) (array made : ChunkedArray) → CanOperate (between source area) (array ∷ []) → IsMadeOf (within area) (schema_of (between source area)) array made → IsResultOf (between source area) (array ∷ []) made
between_result source area array made can m = by_chunks source (between source area) (within area) array made (λ m. refl) (λ m e. e) (gives_between source area can.typed) refl can can.schemas.0 m

-- ---- operators over cores

pub subarray_result : (source : Query) (area : Bounds) (array made : ChunkedArray) → CanOperate (subarray source area) (array ∷ []) → Is made (part_meant area (meant_by_cores array)) → IsResultOf (subarray source area) (array ∷ []) made
subarray_result source area array made can is = computed_by_cores (subarray source area) (part_meant area) array made (λ m. refl) (ap (subarray_schema area) can.schemas.0) is

pub slice_result : (source : Query) (fixed : List Fixed) (array made : ChunkedArray) → CanOperate (sliced source fixed) (array ∷ []) → Is made (slice_meant fixed (meant_by_cores array)) → IsResultOf (sliced source fixed) (array ∷ []) made
slice_result source fixed array made can is = computed_by_cores (sliced source fixed) (slice_meant fixed) array made (λ m. refl) (ap (slice_schema fixed) can.schemas.0) is

pub redimension_result : (source : Query) (schema : Schema) (gs : List Aggregate) (array made : ChunkedArray) → Is made (redimensioned_from schema gs (meant_by_cores array)) → IsResultOf (redimensioned source schema gs) (array ∷ []) made
redimension_result source schema gs array made is = computed_by_cores (redimensioned source schema gs) (redimensioned_from schema gs) array made (λ m. refl) refl is

pub regrid_result : (source : Query) (sizes : List ℕ) (gs : List Aggregate) (array made : ChunkedArray) → CanOperate (regridded source sizes gs) (array ∷ []) → Is made (regrid_meant sizes gs (meant_by_cores array)) → IsResultOf (regridded source sizes gs) (array ∷ []) made
regrid_result source sizes gs array made can is = computed_by_cores (regridded source sizes gs) (regrid_meant sizes gs) array made (λ m. refl) (ap (regrid_schema sizes gs) can.schemas.0) is

pub window_result : (source : Query) (reach : List Reach) (gs : List Aggregate) (array made : ChunkedArray) → CanOperate (windowed source reach gs) (array ∷ []) → Is made (window_meant reach gs (meant_by_cores array)) → IsResultOf (windowed source reach gs) (array ∷ []) made
window_result source reach gs array made can is = computed_by_cores (windowed source reach gs) (window_meant reach gs) array made (λ m. refl) (ap (window_schema gs) can.schemas.0) is

pub aggregate_result : (source : Query) (gs : List Aggregate) (places : List ℕ) (array made : ChunkedArray) → CanOperate (aggregated source gs places) (array ∷ []) → Is made (aggregate_meant gs places (meant_by_cores array)) → IsResultOf (aggregated source gs places) (array ∷ []) made
aggregate_result source gs places array made can is = computed_by_cores (aggregated source gs places) (aggregate_meant gs places) array made (λ m. refl) (ap (aggregate_schema gs places) can.schemas.0) is

pub join_result : (left right : Query) (schema : Schema) (a b made : ChunkedArray) → Is made (join_meant schema (meant_by_cores a) (meant_by_cores b)) → IsResultOf (joined left right schema) (a ∷ b ∷ []) made
join_result left right schema a b made is = computed_of_two (joined left right schema) (join_meant schema) a b made (λ l r. refl) refl is

pub cross_result : (left right : Query) (pairs : List Pair) (schema : Schema) (a b made : ChunkedArray) → Is made (cross_meant schema pairs (meant_by_cores a) (meant_by_cores b)) → IsResultOf (crossed left right pairs schema) (a ∷ b ∷ []) made
cross_result left right pairs schema a b made is = computed_of_two (crossed left right pairs schema) (cross_meant schema pairs) a b made (λ l r. refl) refl is

pub sort_result : (source : Query) (keys : List ℕ) (schema : Schema) (array made : ChunkedArray) → Is made (sorted_from keys schema (meant_by_cores array)) → IsResultOf (sorted source keys schema) (array ∷ []) made
sort_result source keys schema array made is = computed_by_cores (sorted source keys schema) (sorted_from keys schema) array made (λ m. refl) refl is

pub rank_result : (source : Query) (x : ℕ) (dims : List ℕ) (array made : ChunkedArray) → CanOperate (ranked source x dims) (array ∷ []) → Is made (rank_meant x dims (meant_by_cores array)) → IsResultOf (ranked source x dims) (array ∷ []) made
rank_result source x dims array made can is = computed_by_cores (ranked source x dims) (rank_meant x dims) array made (λ m. refl) (ap (rank_schema x) can.schemas.0) is

pub cumulate_result : (source : Query) (gs : List Aggregate) (n : ℕ) (array made : ChunkedArray) → CanOperate (cumulated source gs n) (array ∷ []) → Is made (cumulate_meant gs n (meant_by_cores array)) → IsResultOf (cumulated source gs n) (array ∷ []) made
cumulate_result source gs n array made can is = computed_by_cores (cumulated source gs n) (cumulate_meant gs n) array made (λ m. refl) (ap (cumulate_schema gs) can.schemas.0) is

pub transpose_result : (source : Query) (array made : ChunkedArray) → CanOperate (transposed source) (array ∷ []) → Is made (transpose_meant (meant_by_cores array)) → IsResultOf (transposed source) (array ∷ []) made
transpose_result source array made can is = computed_by_cores (transposed source) transpose_meant array made (λ m. refl) (ap transpose_schema can.schemas.0) is

pub reverse_result : (source : Query) (array made : ChunkedArray) → CanOperate (reversed source) (array ∷ []) → Is made (reverse_meant (meant_by_cores array)) → IsResultOf (reversed source) (array ∷ []) made
reverse_result source array made can is = computed_by_cores (reversed source) reverse_meant array made (λ m. refl) can.schemas.0 is

pub unpack_result : (source : Query) (schema : Schema) (array made : ChunkedArray) → Is made (unpack_meant schema (meant_by_cores array)) → IsResultOf (unpacked source schema) (array ∷ []) made
unpack_result source schema array made is = computed_by_cores (unpacked source schema) (unpack_meant schema) array made (λ m. refl) refl is

pub xgrid_result : (source : Query) (sizes : List ℕ) (array made : ChunkedArray) → CanOperate (xgridded source sizes) (array ∷ []) → Is made (xgrid_meant sizes (meant_by_cores array)) → IsResultOf (xgridded source sizes) (array ∷ []) made
xgrid_result source sizes array made can is = computed_by_cores (xgridded source sizes) (xgrid_meant sizes) array made (λ m. refl) (ap (xgrid_schema sizes) can.schemas.0) is

pub merge_result : (left right : Query) (a b made : ChunkedArray) → CanOperate (merged left right) (a ∷ b ∷ []) → Is made (merge_meant (meant_by_cores a) (meant_by_cores b)) → IsResultOf (merged left right) (a ∷ b ∷ []) made
merge_result left right a b made can is =
    computed_of_two (merged left right) merge_meant a b made (λ l r. refl) (ap (λ (s : Schema). merge_schema s b.schema) can.schemas.0 ∙ ap (merge_schema (schema_of left)) can.schemas.1.0) is

pub concat_result : (left right : Query) (a b made : ChunkedArray) → CanOperate (concatenated left right) (a ∷ b ∷ []) → Is made (concat_meant (meant_by_cores a) (meant_by_cores b)) → IsResultOf (concatenated left right) (a ∷ b ∷ []) made
concat_result left right a b made can is =
    computed_of_two (concatenated left right) concat_meant a b made (λ l r. refl) (ap (λ (s : Schema). concat_schema s b.schema) can.schemas.0 ∙ ap (concat_schema (schema_of left)) can.schemas.1.0) is
