-- The lines that tell what a plan reads: of each leaf, from left to right, how many of its stored chunks are asked for.
use Rattle.std.specs.Prelude.{◌≡◌, ℕ, Bool, List, [], ◌∷◌, ◌++◌, filter, length}
use Rattle.cell_values.specs.declared.schema.Bounds.{Bounds}
use Rattle.array_rows.specs.Boxes.{by_pairs}
use Rattle.array_geom.specs.Geometry.{ChunkNumber, core_meets}
use Rattle.commit_pages.specs.Costs.{numbers_of}
use Rattle.logical_plan.specs.declared.parts.Leaf.{Leaf}
use Rattle.logical_plan.specs.Leaves.{leaves}
use Rattle.logical_plan.specs.Meaning.{Database, version_rows}
use Rattle.logical_plan.specs.Query.{Query}
use Rattle.chunk_source.specs.Source.{SourceState}
use Rattle.plan_needs.specs.Wanted.{whole_need}
use Rattle.changed_chunks.specs.Line.{trace_line}
use Rattle.changed_chunks.specs.Listed.{listed_chunks}
use Rattle.changed_chunks.specs.declared.traces.asking.Asking.{Asking}

-- `trace: A@1 asked 1 of 3`
abbrev pub leaf_line : Leaf → Asking → List ℕ
leaf_line leaf asking = trace_line leaf.name leaf.version asking.asked asking.stored

abbrev pub lines_of : List Leaf → List Asking → List ℕ
lines_of [] askings = []
lines_of (leaf ∷ all) [] = []
lines_of (leaf ∷ all) (asking ∷ askings) = leaf_line leaf asking ++ lines_of all askings

-- of chunks with these numbers those are asked for that a test chooses
abbrev pub asking_where : (ChunkNumber → Bool) → List ChunkNumber → Asking
asking_where chosen chunks = record { asked = length (filter chosen chunks); stored = length chunks }

-- ---- over a source

-- the chunks of a leaf are those that the source lists, and those are asked for whose core meets the leaf's box
abbrev pub asking_over : SourceState → Leaf → Bounds → Asking
asking_over source leaf area = asking_where (core_meets leaf.schema.dimensions area) (listed_chunks source leaf)

-- for a whole plan the boxes are those that it needs
abbrev pub askings_over : SourceState → Query → List Asking
askings_over source query = by_pairs (asking_over source) (leaves query) (whole_need query)

abbrev pub lines_over : SourceState → Query → List ℕ
lines_over source query = lines_of (leaves query) (askings_over source query)

-- ---- in a database

-- the chunks of a leaf are those whose core holds a cell
abbrev pub asking_in : Database → Leaf → Bounds → Asking
asking_in db leaf area =
    asking_where (core_meets leaf.schema.dimensions area) (numbers_of leaf.schema.dimensions (version_rows db leaf.name leaf.version))

abbrev pub askings_in : Database → List Leaf → List Bounds → List Asking
askings_in db all boxes = by_pairs (asking_in db) all boxes

abbrev pub plan_askings : Database → Query → List Asking
plan_askings db query = askings_in db (leaves query) (whole_need query)

abbrev pub plan_lines : Database → Query → List ℕ
plan_lines db query = lines_of (leaves query) (plan_askings db query)

-- ---- whatever is listed

-- a line for each leaf, with some numbers
abbrev pub AreLinesOf : List Leaf → List ℕ → Type 0
AreLinesOf all lines = (askings : List Asking) × (length askings ≡ length all) × (lines ≡ lines_of all askings)
