-- When numbers of cells fit.
use Rattle.std.specs.Prelude.{◌<◌, List, [], ◌∷◌, length, Result, IfOk}
use Rattle.cell_values.specs.declared.datum.Broken.{Broken}
use Rattle.cell_values.specs.declared.datum.Row.{Row}
use Rattle.logical_plan.specs.declared.parts.Aggregate.{Aggregate}
use Rattle.logical_plan.specs.Meaning.{Database, meaning}
use Rattle.logical_plan.specs.Query.{Query, built, listed, scanned, filtered, applied, projected, between, subarray}
use Rattle.logical_plan.specs.Query.{sliced, joined, crossed, redimensioned, regridded, windowed, aggregated}
use Rattle.logical_plan.specs.Query.{sorted, ranked, cumulated, transposed, reversed, unpacked, xgridded, merged, concatenated}

-- an array that is aggregated has fewer than 2^63 cells, so that a number of them is one of 64 bits
abbrev pub CanCount : List Aggregate → Result (List Row) Broken → Type 0
CanCount [] rows = Unit {0}
CanCount (g ∷ gs) rows = IfOk rows (λ all. length all < 9223372036854775808)

-- an array whose cells are ranked has fewer than 2^62, so that a rank is a number of 64 bits
abbrev pub CanRank : Result (List Row) Broken → Type 0
CanRank rows = IfOk rows (λ all. length all < 4611686018427387904)

-- so has each array that a plan aggregates or ranks
abbrev pub CountsFit : Database → Query → Type 0
CountsFit db (built schema e) = Unit {0}
CountsFit db (listed schema rows) = Unit {0}
CountsFit db (scanned leaf) = Unit {0}
CountsFit db (filtered source test) = CountsFit db source
CountsFit db (applied source values) = CountsFit db source
CountsFit db (projected source places) = CountsFit db source
CountsFit db (between source area) = CountsFit db source
CountsFit db (subarray source area) = CountsFit db source
CountsFit db (sliced source fixed) = CountsFit db source
CountsFit db (joined left right schema) = CountsFit db left × CountsFit db right
CountsFit db (crossed left right pairs schema) = CountsFit db left × CountsFit db right
CountsFit db (redimensioned source schema gs) = CountsFit db source × CanCount gs (meaning db source).rows
CountsFit db (regridded source sizes gs) = CountsFit db source × CanCount gs (meaning db source).rows
CountsFit db (windowed source reach gs) = CountsFit db source × CanCount gs (meaning db source).rows
CountsFit db (aggregated source gs places) = CountsFit db source × CanCount gs (meaning db source).rows
CountsFit db (sorted source keys schema) = CountsFit db source
CountsFit db (ranked source x dims) = CountsFit db source × CanRank (meaning db source).rows
CountsFit db (cumulated source gs n) = CountsFit db source × CanCount gs (meaning db source).rows
CountsFit db (transposed source) = CountsFit db source
CountsFit db (reversed source) = CountsFit db source
CountsFit db (unpacked source schema) = CountsFit db source
CountsFit db (xgridded source sizes) = CountsFit db source
CountsFit db (merged left right) = CountsFit db left × CountsFit db right
CountsFit db (concatenated left right) = CountsFit db left × CountsFit db right
