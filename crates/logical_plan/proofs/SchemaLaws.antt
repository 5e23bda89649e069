-- The schema of a plan is that of its meaning, and a typed plan's is valid.
use Rattle.std.proofs.Common.{◌≡◌, Result, Ok, Err, refl, sym, ap, ◌∙◌}
use Rattle.std.specs.Prelude.{IfOk}
use Rattle.cell_values.specs.declared.memory.Memory.{Memory}
use Rattle.cell_values.specs.declared.schema.Schema.{Schema}
use Rattle.cell_values.specs.Schemas.{IsValid}
use Rattle.logical_plan.specs.Meaning.{Database, meaning}
use Rattle.logical_plan.specs.PlanSchema.{schema_of, apply_schema, project_schema, subarray_schema, slice_schema, regrid_schema, window_schema, aggregate_schema, rank_schema, cumulate_schema}
use Rattle.logical_plan.specs.Query.{Query, built, listed, scanned, filtered, applied, projected, between, subarray, sliced, joined, crossed, redimensioned, regridded, windowed, aggregated, sorted, ranked, cumulated, transposed, reversed, unpacked, xgridded, merged, concatenated}
use Rattle.logical_plan.specs.ShapeSchemas.{transpose_schema, xgrid_schema, merge_schema, concat_schema}
use Rattle.logical_plan.specs.Typing.{IsTyped}

of_both : (make : Schema → Schema → Schema) {l l' r r' : Schema} → l ≡ l' → r ≡ r' → make l r ≡ make l' r'
of_both make p q = λ i. make (p i) (q i)

pub meaning_schema : (db : Database) (query : Query) → (meaning db query).schema ≡ schema_of query
meaning_schema db (built schema e) = refl
meaning_schema db (listed schema rows) = refl
meaning_schema db (scanned leaf) = refl
meaning_schema db (filtered source test) = meaning_schema db source
meaning_schema db (applied source values) = ap (apply_schema values) (meaning_schema db source)
meaning_schema db (projected source places) = ap (project_schema places) (meaning_schema db source)
meaning_schema db (between source area) = meaning_schema db source
meaning_schema db (subarray source area) = ap (subarray_schema area) (meaning_schema db source)
meaning_schema db (sliced source fixed) = ap (slice_schema fixed) (meaning_schema db source)
meaning_schema db (joined left right schema) = refl
meaning_schema db (crossed left right pairs schema) = refl
meaning_schema db (redimensioned source schema gs) = refl
meaning_schema db (regridded source sizes gs) = ap (regrid_schema sizes gs) (meaning_schema db source)
meaning_schema db (windowed source reach gs) = ap (window_schema gs) (meaning_schema db source)
meaning_schema db (aggregated source gs places) = ap (aggregate_schema gs places) (meaning_schema db source)
meaning_schema db (sorted source keys schema) = refl
meaning_schema db (ranked source x dims) = ap (rank_schema x) (meaning_schema db source)
meaning_schema db (cumulated source gs n) = ap (cumulate_schema gs) (meaning_schema db source)
meaning_schema db (transposed source) = ap transpose_schema (meaning_schema db source)
meaning_schema db (reversed source) = meaning_schema db source
meaning_schema db (unpacked source schema) = refl
meaning_schema db (xgridded source sizes) = ap (xgrid_schema sizes) (meaning_schema db source)
meaning_schema db (merged left right) = of_both merge_schema (meaning_schema db left) (meaning_schema db right)
meaning_schema db (concatenated left right) = of_both concat_schema (meaning_schema db left) (meaning_schema db right)

-- what answers the schema of a plan answers that of its meaning
pub schema_meant : (answer : Result Schema Memory) (query : Query) → IfOk answer (λ schema. schema ≡ schema_of query) → IfOk answer (λ schema. (db : Database) → (meaning db query).schema ≡ schema)
schema_meant (Ok schema) query h = λ db. meaning_schema db query ∙ sym h
schema_meant (Err memory) query h = h

pub typed_valid : (query : Query) → IsTyped query → IsValid (schema_of query)
typed_valid (built schema e) t = t.0
typed_valid (listed schema rows) t = t.1.valid
typed_valid (scanned leaf) t = t
typed_valid (filtered source test) t = typed_valid source t.0
typed_valid (applied source values) t = t.2
typed_valid (projected source places) t = t.2
typed_valid (between source area) t = typed_valid source t.0
typed_valid (subarray source area) t = t.2
typed_valid (sliced source fixed) t = t.2
typed_valid (joined left right schema) t = t.4
typed_valid (crossed left right pairs schema) t = t.4
typed_valid (redimensioned source schema gs) t = t.2
typed_valid (regridded source sizes gs) t = t.2
typed_valid (windowed source reach gs) t = t.2
typed_valid (aggregated source gs places) t = t.2
typed_valid (sorted source keys schema) t = t.3
typed_valid (ranked source x dims) t = t.2
typed_valid (cumulated source gs n) t = t.2
typed_valid (transposed source) t = t.1
typed_valid (reversed source) t = typed_valid source t.0
typed_valid (unpacked source schema) t = t.2
typed_valid (xgridded source sizes) t = t.2
typed_valid (merged left right) t = t.3
typed_valid (concatenated left right) t = t.3
