-- The chunks of its leaves that a plan wants.
use Rattle.std.specs.Prelude.{◌≡◌, ℕ, Bool, ◌&&◌, List, filter, length, IsTrue}
use Rattle.std.specs.List.{AllZip}
use Rattle.arrayvec.specs.ArrayVec.{ArrayVec}
use Rattle.cell_values.specs.declared.datum.Row.{Row}
use Rattle.cell_values.specs.declared.schema.Bounds.{Bounds}
use Rattle.cell_values.specs.declared.schema.Dimension.{Dimension}
use Rattle.array_rows.specs.Boxes.{within, bounds_of}
use Rattle.array_geom.specs.Geometry.{ChunkNumber, core_meets, frame, overlaps}
use Rattle.array_geom.specs.Link.{has_cell}
use Rattle.logical_plan.specs.declared.parts.Leaf.{Leaf}
use Rattle.logical_plan.specs.Leaves.{leaves}
use Rattle.logical_plan.specs.Meaning.{Database, version_rows}
use Rattle.logical_plan.specs.PlanSchema.{schema_of}
use Rattle.logical_plan.specs.Query.{Query}
use Rattle.plan_needs.specs.Needs.{need}

-- for the whole plan the box is that of its result
abbrev pub whole_need : Query → List Bounds
whole_need query = need query (bounds_of (schema_of query).dimensions)

-- of the stored chunks of a leaf, those whose core meets its box
abbrev pub wanted_of : List Dimension → Bounds → List (ArrayVec ℕ) → List (ArrayVec ℕ)
wanted_of dims area stored = filter (λ chunk. core_meets dims area chunk.items) stored

-- a chunk is stored where its core holds a cell
abbrev pub is_wanted : List Dimension → List Row → Bounds → ChunkNumber → Bool
is_wanted dims rows area k = has_cell dims rows k && core_meets dims area k

-- two versions of an array have the same wanted chunks for a box, with the same cells in their frames
pub record HaveAlike (dims : List Dimension) (area : Bounds) (a b : List Row) : Type 0 where
  pub wanted : (k : ChunkNumber) → length k ≡ length dims → is_wanted dims a area k ≡ is_wanted dims b area k
  pub cells : (k : ChunkNumber) → length k ≡ length dims → IsTrue (is_wanted dims a area k)
      → within (frame dims (overlaps dims) k) a ≡ within (frame dims (overlaps dims) k) b

-- so have two databases, leaf by leaf
abbrev pub AreAlikeAt : Database → Database → Leaf → Bounds → Type 0
AreAlikeAt a b leaf area = HaveAlike leaf.schema.dimensions area (version_rows a leaf.name leaf.version) (version_rows b leaf.name leaf.version)

abbrev pub AreAlikeFor : Database → Database → Query → List Bounds → Type 0
AreAlikeFor a b query boxes = AllZip (AreAlikeAt a b) (leaves query) boxes
