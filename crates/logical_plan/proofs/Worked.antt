-- Two databases that have the same rows of one array, and other rows of another one.
use Rattle.std.proofs.Common.{◌≡◌, ℕ, pos, true, cond, List, [], ◌∷◌, refl, codes}
use Rattle.std.specs.Str.{bytes_eq}
use Rattle.cell_values.specs.declared.datum.Cell.TheVariants.{Full}
use Rattle.cell_values.specs.declared.datum.Datum.TheVariants.{Int}
use Rattle.cell_values.specs.declared.datum.Row.{Row}
use Rattle.cell_values.specs.declared.schema.Schema.{Schema}
use Rattle.cell_values.specs.declared.schema.Kind.TheVariants.{Int64}
use Rattle.array_rows.specs.Rows.{placed}
use Rattle.logical_plan.specs.declared.parts.Leaf.{Leaf}
use Rattle.logical_plan.specs.Meaning.{Database, meaning, whole}
use Rattle.logical_plan.specs.Query.{Query, scanned, projected, joined}
use Rattle.logical_plan.specs.Reads.{ReadAlike}

line : Schema
line = record { attributes = record { name = codes "v"; kind = Int64; nullable = true } ∷ []; dimensions = record { name = codes "i"; lo = pos 0; hi = pos 4; chunk = 5; overlap = 0 } ∷ [] }

one : ℕ → ℕ → List Row
one i n = placed (pos i ∷ []) (Full (Int (pos n) ∷ [])) ∷ []

-- of A these rows, of all else those
of_two : List Row → List Row → Database
of_two these those name version = cond (bytes_eq name (codes "A")) these those

first : Database
first = of_two (one 3 7) []

second : Database
second = of_two (one 3 7) (one 3 8)

version_of : List ℕ → Leaf
version_of name = record { name = name; version = 1; schema = line }

-- A, beside itself
twice : Query
twice = joined (scanned (version_of (codes "A"))) (projected (scanned (version_of (codes "A"))) (0 ∷ [])) line

read_alike : ReadAlike first second twice
unfolding first second twice version_of of_two
read_alike = (refl, (refl, tt))

in_the_first : meaning first twice ≡ whole line (placed (pos 3 ∷ []) (Full (Int (pos 7) ∷ Int (pos 7) ∷ [])) ∷ [])
unfolding first twice version_of of_two one
in_the_first = refl

in_the_second : meaning second twice ≡ whole line (placed (pos 3 ∷ []) (Full (Int (pos 7) ∷ Int (pos 7) ∷ [])) ∷ [])
unfolding second twice version_of of_two one
in_the_second = refl

-- a plan that reads another array has two meanings
apart : (meaning first (scanned (version_of (codes "B"))) ≡ whole line []) × (meaning second (scanned (version_of (codes "B"))) ≡ whole line (one 3 8))
unfolding first second version_of of_two
apart = (refl, refl)
