-- Small plans, and what they need.
use Rattle.std.proofs.Common.{◌≡◌, ℕ, ℤ, pos, negsuc, true, List, [], ◌∷◌, refl, codes}
use Rattle.arrayvec.specs.ArrayVec.{ArrayVec}
use Rattle.cell_values.specs.declared.datum.CompareOp.TheVariants.{More}
use Rattle.cell_values.specs.declared.datum.Datum.TheVariants.{Int}
use Rattle.cell_values.specs.declared.schema.Bounds.{Bounds}
use Rattle.cell_values.specs.declared.schema.Dimension.{Dimension}
use Rattle.cell_values.specs.declared.schema.Kind.TheVariants.{Int64}
use Rattle.cell_values.specs.declared.schema.Schema.{Schema}
use Rattle.array_rows.specs.Boxes.{corners}
use Rattle.expr_nulls.specs.Expr.{literal, attribute_value, relation}
use Rattle.logical_plan.specs.declared.parts.AggFunction.TheVariants.{Sum}
use Rattle.logical_plan.specs.declared.parts.Aggregate.{Aggregate}
use Rattle.logical_plan.specs.PlanSchema.{join_schema, cross_schema}
use Rattle.logical_plan.specs.Query.{Query, scanned, filtered, between, subarray, sliced, joined, crossed, regridded, windowed, aggregated}
use Rattle.plan_needs.specs.Needs.{need}
use Rattle.plan_needs.specs.Wanted.{whole_need, wanted_of}

dim : List ℕ → ℕ → ℕ → ℕ → Dimension
dim name hi chunk overlap = record { name = name; lo = pos 0; hi = pos hi; chunk = chunk; overlap = overlap }

-- `<v:int64>[i=0:5,2,overlap]`, version 1
six : ℕ → Schema
six overlap = record { attributes = record { name = codes "v"; kind = Int64; nullable = true } ∷ []; dimensions = dim (codes "i") 5 2 overlap ∷ [] }

stored : Schema → Query
stored schema = scanned (record { name = codes "A"; version = 1; schema = schema })

total : List Aggregate
total = record { function = Sum; attribute = 0; name = codes "v_sum" } ∷ []

at : ℕ → ArrayVec ℕ
at k = record { items = k ∷ [] }

three : List (ArrayVec ℕ)
three = at 0 ∷ at 1 ∷ at 2 ∷ []

line : ℤ → ℤ → Bounds
line lo hi = corners (lo ∷ []) (hi ∷ [])

none : Bounds
none = line (pos 1) (pos 0)

-- ---- windows

-- `between(window(A, 1, 1, sum(v)), 0, 1)`
windows : ℕ → Query
windows overlap = between (windowed (stored (six overlap)) (record { before = 1; after = 1 } ∷ []) total) (line (pos 0) (pos 1))

-- the overlap has what the windows reach
within_overlap : (whole_need (windows 1) ≡ line (pos 0) (pos 1) ∷ []) × (wanted_of (six 1).dimensions (line (pos 0) (pos 1)) three ≡ at 0 ∷ [])
unfolding windows stored six dim total line at three
within_overlap = (refl, refl)

-- without an overlap the box grows, up to the bounds
beyond_overlap : (whole_need (windows 0) ≡ line (pos 0) (pos 2) ∷ []) × (wanted_of (six 0).dimensions (line (pos 0) (pos 2)) three ≡ at 0 ∷ at 1 ∷ [])
unfolding windows stored six dim total line at three
beyond_overlap = (refl, refl)

-- ---- groups

-- `aggregate(between(filter(A, v>0), 4, 5), sum(v))`
totals : Query
totals = aggregated (between (filtered (stored (six 1)) (relation More (attribute_value 0) (literal (Int (pos 0))))) (line (pos 4) (pos 5))) total []

last_chunk : (whole_need totals ≡ line (pos 4) (pos 5) ∷ []) × (wanted_of (six 1).dimensions (line (pos 4) (pos 5)) three ≡ at 2 ∷ [])
unfolding totals stored six dim total line at three
last_chunk = (refl, refl)

-- of no group no place is needed
no_group : need (aggregated (stored (six 1)) total []) (line (pos 1) (pos 0)) ≡ none ∷ []
unfolding stored six dim total line none
no_group = refl

-- the blocks 1 and 2 of two places each
two_blocks : need (regridded (stored (six 0)) (2 ∷ []) total) (line (pos 1) (pos 2)) ≡ line (pos 2) (pos 5) ∷ []
unfolding stored six dim total line
two_blocks = refl

-- no block has a number below the bounds
no_block : need (regridded (stored (six 0)) (2 ∷ []) total) (line (negsuc 2) (negsuc 0)) ≡ line (pos 0) (negsuc 0) ∷ []
unfolding stored six dim total line
no_block = refl

-- of no block no place
no_blocks : need (regridded (stored (six 0)) (2 ∷ []) total) (line (pos 2) (pos 1)) ≡ none ∷ []
unfolding stored six dim total line none
no_blocks = refl

-- ---- parts

part : whole_need (subarray (stored (six 0)) (line (negsuc 4) (pos 3))) ≡ line (pos 0) (pos 3) ∷ []
unfolding stored six dim line
part = refl

-- beyond the bounds there is nothing
no_slice : need (sliced (stored (six 0)) (record { dimension = 0; at = pos 7 } ∷ [])) (corners [] []) ≡ none ∷ []
unfolding stored six dim line none
no_slice = refl

-- ---- joins

-- `<v:int64>[x=0:3,2,0, y=0:5,2,0]`
plane : Schema
plane = record { attributes = record { name = codes "v"; kind = Int64; nullable = true } ∷ []; dimensions = dim (codes "x") 3 2 0 ∷ dim (codes "y") 5 2 0 ∷ [] }

-- of the right side's two dimensions the first is paired with the left one's second
crossing : need (crossed (stored plane) (stored plane) (record { left = 1; right = 0 } ∷ []) (cross_schema (record { left = 1; right = 0 } ∷ []) plane plane))
    (corners (pos 1 ∷ pos 2 ∷ pos 4 ∷ []) (pos 1 ∷ pos 4 ∷ pos 5 ∷ []))
    ≡ corners (pos 1 ∷ pos 2 ∷ []) (pos 1 ∷ pos 4 ∷ []) ∷ corners (pos 2 ∷ pos 4 ∷ []) (pos 3 ∷ pos 5 ∷ []) ∷ []
unfolding stored plane dim
crossing = refl

both_sides : need (joined (stored (six 0)) (between (stored (six 0)) (line (pos 2) (pos 9))) (join_schema (six 0) (six 0))) (line (pos 1) (pos 3))
    ≡ line (pos 1) (pos 3) ∷ line (pos 2) (pos 3) ∷ []
unfolding stored six dim line
both_sides = refl

-- ---- an empty box under a cross join

-- `<v:int64>[z=0:13,4,2]` and `<v:int64>[k=0:2,4,0, j=0:2,2,0, n=-2:0,4,0]`
long : Schema
long = record { attributes = record { name = codes "v"; kind = Int64; nullable = true } ∷ []; dimensions = dim (codes "z") 13 4 2 ∷ [] }

cube : Schema
cube = record {
  attributes = record { name = codes "v"; kind = Int64; nullable = true } ∷ [];
  dimensions = dim (codes "k") 2 4 0 ∷ dim (codes "j") 2 2 0 ∷ record { name = codes "n"; lo = negsuc 1; hi = pos 0; chunk = 4; overlap = 0 } ∷ [];
}

-- `cross_join(D, A, z, k)`
both : Query
both = crossed (stored long) (stored cube) (record { left = 0; right = 0 } ∷ []) (cross_schema (record { left = 0; right = 0 } ∷ []) long cube)

none_of_both : List Bounds
none_of_both = none ∷ corners (pos 1 ∷ pos 1 ∷ pos 1 ∷ []) (pos 0 ∷ pos 0 ∷ pos 0 ∷ []) ∷ []

-- `between(slice(cross_join(D, A, z, k), n, -3), 6, 0, null, 0)`: n is beyond its bounds, and nothing is needed of D either
no_cross : whole_need (between (sliced both (record { dimension = 2; at = negsuc 2 } ∷ [])) (corners (pos 6 ∷ pos 0 ∷ []) (pos 13 ∷ pos 0 ∷ []))) ≡ none_of_both
unfolding both none_of_both none long cube stored dim line
no_cross = refl

-- where n is within its bounds, an empty box is one dimension by dimension
crossed_slice : need (sliced both (record { dimension = 2; at = negsuc 0 } ∷ [])) (corners (pos 6 ∷ pos 1 ∷ []) (pos 13 ∷ pos 0 ∷ []))
    ≡ line (pos 6) (pos 13) ∷ corners (pos 6 ∷ pos 1 ∷ negsuc 0 ∷ []) (pos 2 ∷ pos 0 ∷ negsuc 0 ∷ []) ∷ []
unfolding both long cube stored dim line
crossed_slice = refl

-- `aggregate(cross_join(D, A, z, k), sum(v), n)`: of no group nothing
no_groups : need (aggregated both total (2 ∷ [])) (line (pos 1) (pos 0)) ≡ none_of_both
unfolding both none_of_both none long cube stored dim line total
no_groups = refl

-- windows beyond the overlap, and blocks
no_windows : need (windowed both (record { before = 1; after = 1 } ∷ record { before = 0; after = 0 } ∷ record { before = 0; after = 0 } ∷ []) total) (corners (pos 0 ∷ pos 0 ∷ pos 0 ∷ []) (pos 9 ∷ negsuc 0 ∷ pos 0 ∷ [])) ≡ none_of_both
unfolding both none_of_both none long cube stored dim line total
no_windows = refl

no_crossed_blocks : need (regridded both (2 ∷ 1 ∷ 1 ∷ []) total) (corners (pos 0 ∷ pos 2 ∷ pos 0 ∷ []) (pos 9 ∷ pos 1 ∷ pos 0 ∷ [])) ≡ none_of_both
unfolding both none_of_both none long cube stored dim line total
no_crossed_blocks = refl
