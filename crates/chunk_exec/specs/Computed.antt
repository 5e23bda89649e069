-- What is computed of a plan over a source.
use Rattle.std.specs.Prelude.{◌≡◌, ℕ, ◌+◌, ◌++◌, List, [], ◌∷◌, map}
use Rattle.std.specs.List.{AllByRecursion}
use Rattle.cell_values.specs.declared.datum.Row.{Row}
use Rattle.cell_values.specs.declared.schema.Bounds.{Bounds}
use Rattle.cell_values.specs.declared.schema.Schema.{Schema}
use Rattle.array_parts.specs.Cores.{HasCells}
use Rattle.array_geom.specs.declared.chunk.ChunkedArray.{ChunkedArray}
use Rattle.array_geom.specs.Link.{Is}
use Rattle.logical_plan.specs.declared.parts.Leaf.{Leaf}
use Rattle.logical_plan.specs.Leaves.{leaves}
use Rattle.logical_plan.specs.Meaning.{Database, meaning, version_rows, whole}
use Rattle.logical_plan.specs.PlanSchema.{schema_of}
use Rattle.logical_plan.specs.Query.{Query}
use Rattle.logical_plan.specs.Typing.{IsTyped}
use Rattle.plan_needs.specs.Wanted.{wanted_of, whole_need}
use Rattle.chunk_source.specs.declared.sources.asked.Asked.{Asked}
use Rattle.chunk_source.specs.Source.{HasArray, Reads, SourceState, asks, listed}
use Rattle.chunk_source.specs.Numbered.{HoldsAll, known_of_leaves, numbered}

-- a typed plan over leaves that the source has
pub record CanCompute (source : SourceState) (query : Query) : Type 0 where
  pub typed : IsTyped query
  pub reads : AllByRecursion (Reads source) (leaves query)

-- of each leaf the chunks whose core meets its box, once each. The first leaf has this number in its plan
abbrev pub asked_in_boxes : SourceState → ℕ → List Leaf → List Bounds → List Asked
asked_in_boxes source number [] boxes = []
asked_in_boxes source number (leaf ∷ all) [] = []
asked_in_boxes source number (leaf ∷ all) (box ∷ boxes) =
    map (asks number) (wanted_of leaf.schema.dimensions box (listed source leaf)) ++ asked_in_boxes source (number + 1) all boxes

-- for a whole plan the boxes are those that it needs
abbrev pub asked_for_plan : SourceState → Query → List Asked
asked_for_plan source query = asked_in_boxes source 0 (leaves query) (whole_need query)

-- The array of a plan, computed of its leaves as far as their chunks tell that meet these boxes: of the plan's schema, with cells that
-- are rows of it whether the source tells its arrays or not. In each database that the source tells the leaves stand for arrays with
-- these chunks, and the array is what the plan means over the rows that are known of each leaf. The first leaf has this number.
pub record IsComputed (first : ℕ) (boxes : List Bounds) (old new : SourceState) (query : Query) (array : ChunkedArray) : Type 0 where
  pub schema_is : array.schema ≡ schema_of query
  pub cells : HasCells array
  pub leaves_are : (db : Database) → old.tells db
      → AllByRecursion (λ leaf. HasArray leaf (version_rows db leaf.name leaf.version) (listed old leaf)) (leaves query)
  pub means : (db known : Database) → old.tells db → HoldsAll known first (known_of_leaves (listed old) db (leaves query) boxes)
      → Is array (meaning known (numbered first query))
  pub asked : new.asked ≡ old.asked ++ asked_in_boxes old first (leaves query) boxes

-- the array of these rows
pub record IsGiven (schema : Schema) (rows : List Row) (array : ChunkedArray) : Type 0 where
  pub schema_is : array.schema ≡ schema
  pub cells : HasCells array
  pub means : Is array (whole schema rows)
