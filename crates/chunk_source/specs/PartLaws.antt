-- Laws of what is known of a version by its wanted chunks.
use Rattle.std.specs.Prelude.{ℕ, List}
use Rattle.arrayvec.specs.ArrayVec.{ArrayVec}
use Rattle.cell_values.specs.declared.datum.Row.{Row}
use Rattle.cell_values.specs.declared.schema.Bounds.{Bounds}
use Rattle.array_rows.specs.Arrays.{AreRowsOf}
use Rattle.logical_plan.specs.Typing.{AreSound}
use Rattle.logical_plan.specs.declared.parts.Leaf.{Leaf}
use Rattle.plan_needs.specs.Wanted.{HaveAlike}
use Rattle.chunk_source.specs.Source.{HasArray}
use Rattle.chunk_source.specs.Known.{known_for}

-- it has the wanted chunks of the version, with the same cells in their frames
abbrev pub KnownRowsAreAlike : Type 0
KnownRowsAreAlike = (leaf : Leaf) (area : Bounds) (rows : List Row) (stored : List (ArrayVec ℕ)) → HasArray leaf rows stored
    → HaveAlike leaf.schema.dimensions area (known_for leaf area stored rows) rows

-- it is rows of the schema, without a fault, and without a null where none may be
abbrev pub KnownRowsAreSound : Type 0
KnownRowsAreSound = (leaf : Leaf) (area : Bounds) (rows : List Row) (stored : List (ArrayVec ℕ)) → HasArray leaf rows stored
    → AreRowsOf leaf.schema (known_for leaf area stored rows) × AreSound leaf.schema (known_for leaf area stored rows)
