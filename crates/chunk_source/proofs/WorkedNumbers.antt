-- A join of an array with a part of itself, and its leaves by their numbers.
use Rattle.std.proofs.Common.{◌≡◌, ℕ, ℤ, pos, true, List, [], ◌∷◌, refl, codes}
use Rattle.arrayvec.specs.ArrayVec.{ArrayVec}
use Rattle.cell_values.specs.declared.datum.Cell.TheVariants.{Full}
use Rattle.cell_values.specs.declared.datum.Datum.TheVariants.{Int}
use Rattle.cell_values.specs.declared.datum.Row.{Row}
use Rattle.cell_values.specs.declared.schema.Kind.TheVariants.{Int64}
use Rattle.cell_values.specs.declared.schema.Schema.{Schema}
use Rattle.array_rows.specs.Boxes.{corners}
use Rattle.array_rows.specs.Rows.{placed}
use Rattle.logical_plan.specs.declared.parts.Leaf.{Leaf}
use Rattle.logical_plan.specs.Leaves.{leaves}
use Rattle.logical_plan.specs.Meaning.{Database, meaning}
use Rattle.logical_plan.specs.PlanSchema.{join_schema}
use Rattle.logical_plan.specs.Query.{Query, between, joined, scanned}
use Rattle.plan_needs.specs.Wanted.{whole_need}
use Rattle.chunk_source.specs.Numbered.{HoldsAll, by_number, known_of_leaves, numbered}

-- `A<v:int64>[i=0:5,2,0]`, version 1
schema : Schema
schema = record {
  attributes = record { name = codes "v"; kind = Int64; nullable = true } ∷ [];
  dimensions = record { name = codes "i"; lo = pos 0; hi = pos 5; chunk = 2; overlap = 0 } ∷ [];
}

leaf : Leaf
leaf = record { name = codes "A"; version = 1; schema = schema }

cell : ℤ → Row
cell i = placed (i ∷ []) (Full (Int i ∷ []))

-- a cell in each of its chunks
db : Database
db name version = cell (pos 1) ∷ cell (pos 2) ∷ cell (pos 5) ∷ []

chunks : Leaf → List (ArrayVec ℕ)
chunks _ = record { items = 0 ∷ [] } ∷ record { items = 1 ∷ [] } ∷ record { items = 2 ∷ [] } ∷ []

-- `join(A, between(A, 0, 1))`
query : Query
query = joined (scanned leaf) (between (scanned leaf) (corners (pos 0 ∷ []) (pos 1 ∷ []))) (join_schema schema schema)

-- of the left one all is known, of the right one its first chunk
parts : known_of_leaves chunks db (leaves query) (whole_need query) ≡ (cell (pos 1) ∷ cell (pos 2) ∷ cell (pos 5) ∷ []) ∷ (cell (pos 1) ∷ []) ∷ []
unfolding query schema leaf cell db chunks
parts = refl

known : Database
known = by_number (known_of_leaves chunks db (leaves query) (whole_need query))

holds : HoldsAll known 0 (known_of_leaves chunks db (leaves query) (whole_need query))
unfolding query schema leaf cell db chunks known
holds = (refl, (refl, tt))

same : meaning known (numbered 0 query) ≡ meaning db query
unfolding query schema leaf cell db chunks known
same = refl
