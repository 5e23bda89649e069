-- The stored arrays that a plan reads.
use Rattle.std.specs.Prelude.{List, [], ◌∷◌, ◌++◌}
use Rattle.logical_plan.specs.declared.parts.Leaf.{Leaf}
use Rattle.logical_plan.specs.Query.{Query, built, listed, scanned, filtered, applied, projected, between, subarray}
use Rattle.logical_plan.specs.Query.{sliced, joined, crossed, redimensioned, regridded, windowed, aggregated}
use Rattle.logical_plan.specs.Query.{sorted, ranked, cumulated, transposed, reversed, unpacked, xgridded, merged, concatenated}

-- from left to right, each as often as it is read
abbrev pub leaves : Query → List Leaf
leaves (built schema e) = []
leaves (listed schema rows) = []
leaves (scanned leaf) = leaf ∷ []
leaves (filtered source test) = leaves source
leaves (applied source values) = leaves source
leaves (projected source places) = leaves source
leaves (between source area) = leaves source
leaves (subarray source area) = leaves source
leaves (sliced source fixed) = leaves source
leaves (joined left right schema) = leaves left ++ leaves right
leaves (crossed left right pairs schema) = leaves left ++ leaves right
leaves (redimensioned source schema gs) = leaves source
leaves (regridded source sizes gs) = leaves source
leaves (windowed source reach gs) = leaves source
leaves (aggregated source gs places) = leaves source
leaves (sorted source keys schema) = leaves source
leaves (ranked source x dims) = leaves source
leaves (cumulated source gs n) = leaves source
leaves (transposed source) = leaves source
leaves (reversed source) = leaves source
leaves (unpacked source schema) = leaves source
leaves (xgridded source sizes) = leaves source
leaves (merged left right) = leaves left ++ leaves right
leaves (concatenated left right) = leaves left ++ leaves right
