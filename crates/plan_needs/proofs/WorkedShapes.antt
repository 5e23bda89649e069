-- What plans need whose cells are put in order, at other coordinates, or behind those of another array.
use Rattle.std.proofs.Common.{◌≡◌, ℕ, ℤ, pos, negsuc, true, List, [], ◌∷◌, refl, codes}
use Rattle.cell_values.specs.declared.schema.Bounds.{Bounds}
use Rattle.cell_values.specs.declared.schema.Dimension.{Dimension}
use Rattle.cell_values.specs.declared.schema.Kind.TheVariants.{Int64}
use Rattle.cell_values.specs.declared.schema.Schema.{Schema}
use Rattle.array_rows.specs.Boxes.{corners}
use Rattle.logical_plan.specs.declared.parts.AggFunction.TheVariants.{Sum}
use Rattle.logical_plan.specs.PlanSchema.{cross_schema, sort_schema}
use Rattle.logical_plan.specs.Query.{Query, scanned, crossed, sorted, ranked, cumulated, transposed, reversed, unpacked, xgridded, merged, concatenated}
use Rattle.logical_plan.specs.ShapeSchemas.{unpack_schema}
use Rattle.plan_needs.specs.Needs.{need}

abbrev dim : List ℕ → ℕ → ℕ → Dimension
dim name lo hi = record { name = name; lo = pos lo; hi = pos hi; chunk = 2; overlap = 0 }

abbrev over : List Dimension → Schema
over dims = record { attributes = record { name = codes "v"; kind = Int64; nullable = true } ∷ []; dimensions = dims }

abbrev stored : Schema → Query
stored schema = scanned (record { name = codes "A"; version = 1; schema = schema })

-- `<v:int64>[i=0:5,2,0]` and `<v:int64>[x=0:3,2,0,y=0:5,2,0]`
abbrev six : Schema
six = over (dim (codes "i") 0 5 ∷ [])

abbrev plane : Schema
plane = over (dim (codes "x") 0 3 ∷ dim (codes "y") 0 5 ∷ [])

abbrev line : ℤ → ℤ → Bounds
line lo hi = corners (lo ∷ []) (hi ∷ [])

abbrev box : ℕ → ℕ → ℕ → ℕ → Bounds
box x y x' y' = corners (pos x ∷ pos y ∷ []) (pos x' ∷ pos y' ∷ [])

-- ---- order

-- all places, also for an empty box
all_sorted : need (sorted (stored six) (0 ∷ []) (sort_schema six)) (line (pos 3) (pos 2)) ≡ line (pos 0) (pos 5) ∷ []
all_sorted = refl

-- by the second dimension: the first one is not that of the groups
ranks : need (ranked (stored plane) 0 (1 ∷ [])) (box 1 2 1 4) ≡ box 0 2 3 4 ∷ []
ranks = refl

ranks_of_all : need (ranked (stored plane) 0 []) (box 1 2 1 4) ≡ box 0 0 3 5 ∷ []
ranks_of_all = refl

-- of no cell no group, though the first dimension alone would be needed whole
no_ranks : need (ranked (stored plane) 0 (1 ∷ [])) (box 2 2 1 4) ≡ box 1 1 0 0 ∷ []
no_ranks = refl

totals : need (cumulated (stored plane) (record { function = Sum; attribute = 0; name = codes "s" } ∷ []) 1) (box 1 2 1 4) ≡ box 1 0 1 4 ∷ []
totals = refl

no_totals : need (cumulated (stored plane) (record { function = Sum; attribute = 0; name = codes "s" } ∷ []) 1) (box 1 4 1 2) ≡ box 1 1 0 0 ∷ []
no_totals = refl

-- ---- other coordinates

backwards : need (transposed (stored plane)) (box 2 1 4 1) ≡ box 1 2 1 4 ∷ []
backwards = refl

opposite : need (reversed (stored plane)) (box 0 1 1 2) ≡ box 2 3 3 4 ∷ []
opposite = refl

all_unpacked : need (unpacked (stored plane) (unpack_schema (codes "r") plane)) (line (pos 4) (pos 3)) ≡ box 0 0 3 5 ∷ []
all_unpacked = refl

-- the blocks of three of the places 2 and 3 are 6 to 8 and 9 to 11
blocks : need (xgridded (stored six) (3 ∷ [])) (line (pos 8) (pos 9)) ≡ line (pos 2) (pos 3) ∷ []
blocks = refl

-- an empty box, though both its ends are in one block
no_blocks : need (xgridded (stored six) (3 ∷ [])) (line (pos 8) (pos 7)) ≡ line (pos 1) (pos 0) ∷ []
no_blocks = refl

-- under a cross join of `<v:int64>[x=0:3,2,0,y=0:5,2,0]` and `<v:int64>[i=0:5,2,0]` neither side is needed
no_crossed_blocks : need (xgridded (crossed (stored plane) (stored six) [] (cross_schema [] plane six)) (1 ∷ 1 ∷ 2 ∷ [])) (corners (pos 0 ∷ pos 0 ∷ pos 3 ∷ []) (pos 3 ∷ pos 5 ∷ pos 2 ∷ [])) ≡ box 1 1 0 0 ∷ line (pos 1) (pos 0) ∷ []
no_crossed_blocks = refl

-- ---- two arrays

both : need (merged (stored six) (stored six)) (line (pos 1) (pos 3)) ≡ line (pos 1) (pos 3) ∷ line (pos 1) (pos 3) ∷ []
both = refl

-- `<v:int64>[i=2:4,2,0]` stands behind at 6 to 8
behind : need (concatenated (stored six) (stored (over (dim (codes "i") 2 4 ∷ [])))) (line (pos 4) (pos 7)) ≡ line (pos 4) (pos 5) ∷ line (pos 2) (pos 3) ∷ []
behind = refl

-- where the box has nothing of an array, its side there is empty
all_in_front : need (concatenated (stored six) (stored (over (dim (codes "i") 2 4 ∷ [])))) (line (pos 0) (pos 3)) ≡ line (pos 0) (pos 3) ∷ line (pos 2) (negsuc 0) ∷ []
all_in_front = refl
