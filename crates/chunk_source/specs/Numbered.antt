-- Plans whose leaves are told apart by their numbers: what is known of two leaves of one version may differ.
use Rattle.std.specs.Prelude.{◌≡◌, ℕ, ◌+◌, List, [], ◌∷◌, length, map, slice_index_or, ⊤}
use Rattle.arrayvec.specs.ArrayVec.{ArrayVec}
use Rattle.cell_values.specs.declared.datum.Row.{Row}
use Rattle.cell_values.specs.declared.schema.Bounds.{Bounds}
use Rattle.array_rows.specs.Boxes.{by_pairs}
use Rattle.logical_plan.specs.declared.parts.Leaf.{Leaf}
use Rattle.logical_plan.specs.Leaves.{leaves}
use Rattle.logical_plan.specs.Meaning.{Database, version_rows}
use Rattle.logical_plan.specs.Query.{Query, built, listed, scanned, filtered, applied, projected, between, subarray}
use Rattle.logical_plan.specs.Query.{sliced, joined, crossed, redimensioned, regridded, windowed, aggregated}
use Rattle.logical_plan.specs.Query.{sorted, ranked, cumulated, transposed, reversed, unpacked, xgridded, merged, concatenated}
use Rattle.chunk_source.specs.Known.{known_for}

-- a leaf whose name is its number
abbrev pub numbered_leaf : ℕ → Leaf → Leaf
numbered_leaf n leaf = record { name = n ∷ []; version = 1; schema = leaf.schema }

-- from left to right, from this number on
abbrev pub numbered : ℕ → Query → Query
numbered n (built schema e) = built schema e
numbered n (listed schema rows) = listed schema rows
numbered n (scanned leaf) = scanned (numbered_leaf n leaf)
numbered n (filtered source test) = filtered (numbered n source) test
numbered n (applied source values) = applied (numbered n source) values
numbered n (projected source places) = projected (numbered n source) places
numbered n (between source area) = between (numbered n source) area
numbered n (subarray source area) = subarray (numbered n source) area
numbered n (sliced source fixed) = sliced (numbered n source) fixed
numbered n (joined left right schema) = joined (numbered n left) (numbered (n + length (leaves left)) right) schema
numbered n (crossed left right pairs schema) = crossed (numbered n left) (numbered (n + length (leaves left)) right) pairs schema
numbered n (redimensioned source schema gs) = redimensioned (numbered n source) schema gs
numbered n (regridded source sizes gs) = regridded (numbered n source) sizes gs
numbered n (windowed source reach gs) = windowed (numbered n source) reach gs
numbered n (aggregated source gs places) = aggregated (numbered n source) gs places
numbered n (sorted source keys schema) = sorted (numbered n source) keys schema
numbered n (ranked source x dims) = ranked (numbered n source) x dims
numbered n (cumulated source gs d) = cumulated (numbered n source) gs d
numbered n (transposed source) = transposed (numbered n source)
numbered n (reversed source) = reversed (numbered n source)
numbered n (unpacked source schema) = unpacked (numbered n source) schema
numbered n (xgridded source sizes) = xgridded (numbered n source) sizes
numbered n (merged left right) = merged (numbered n left) (numbered (n + length (leaves left)) right)
numbered n (concatenated left right) = concatenated (numbered n left) (numbered (n + length (leaves left)) right)

-- a database has these rows for the leaves from this number on
abbrev pub HoldsAll : Database → ℕ → List (List Row) → Type 0
HoldsAll db n [] = ⊤
HoldsAll db n (rows ∷ more) = (db (n ∷ []) 1 ≡ rows) × HoldsAll db (n + 1) more

-- the one with these rows for the leaves from 0 on
abbrev pub by_number : List (List Row) → Database
by_number all [] version = []
by_number all (n ∷ name) version = slice_index_or all n []

-- the rows of each leaf, and those that the chunks tell which are wanted for its box
abbrev pub rows_of_leaves : Database → List Leaf → List (List Row)
rows_of_leaves db all = map (λ leaf. version_rows db leaf.name leaf.version) all

abbrev pub known_of_leaves : (Leaf → List (ArrayVec ℕ)) → Database → List Leaf → List Bounds → List (List Row)
known_of_leaves stored db all boxes = by_pairs (λ leaf box. known_for leaf box (stored leaf) (version_rows db leaf.name leaf.version)) all boxes
