-- What lines are added.
use Rattle.std.specs.Prelude.{◌≡◌, ℕ, List, ◌++◌}
use Rattle.cell_values.specs.declared.schema.Bounds.{Bounds}
use Rattle.array_rows.specs.Boxes.{by_pairs}
use Rattle.logical_plan.specs.declared.parts.Leaf.{Leaf}
use Rattle.logical_plan.specs.Meaning.{Database}
use Rattle.chunk_source.specs.Source.{SourceState}
use Rattle.changed_chunks.specs.declared.traces.asking.Asking.{Asking}
use Rattle.changed_chunks.specs.Traced.{asking_in, asking_over, lines_of}

-- the lines of these leaves, of each of which so many chunks are asked for in its box
abbrev pub lines_by : (Leaf → Bounds → Asking) → List Leaf → List Bounds → List ℕ
lines_by asking all boxes = lines_of all (by_pairs asking all boxes)

-- the lines of these leaves over the source were added, which in each database that it tells are those that are right there
pub record AddsLines (source : SourceState) (all : List Leaf) (boxes : List Bounds) (before after : List ℕ) : Type 0 where
  pub over : after ≡ before ++ lines_by (asking_over source) all boxes
  pub told : (db : Database) → source.tells db → after ≡ before ++ lines_by (asking_in db) all boxes
