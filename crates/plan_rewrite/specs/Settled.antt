-- When a plan is settled: boxes stand as low as they can, and nothing is computed that is dropped at once.
use Rattle.std.specs.Prelude.{ℕ, ◌+◌, ◌==◌, Bool, true, false, not, ◌&&◌, List, [], ◌∷◌, length}
use Rattle.std.specs.List.{list_any}
use Rattle.logical_plan.specs.PlanSchema.{schema_of}
use Rattle.logical_plan.specs.Query.{Query, built, listed, scanned, filtered, applied, projected, between, subarray}
use Rattle.logical_plan.specs.Query.{sliced, joined, crossed, redimensioned, regridded, windowed, aggregated}
use Rattle.logical_plan.specs.Query.{sorted, ranked, cumulated, transposed, reversed, unpacked, xgridded, merged, concatenated}

abbrev pub is_named : ℕ → List ℕ → Bool
is_named n places = list_any (λ place. place == n) places

-- all places of a list, the first of which is numbered n, are named
abbrev pub names_all : {A : Type 0} → ℕ → List A → List ℕ → Bool
names_all n [] places = true
names_all n (x ∷ xs) places = is_named n places && names_all (n + 1) xs places

-- a between does not stand on these
abbrev pub is_cellwise : Query → Bool
is_cellwise (filtered source test) = true
is_cellwise (applied source values) = true
is_cellwise (projected source places) = true
is_cellwise (between source area) = true
is_cellwise query = false

-- a project does not stand on a project, nor does it drop an attribute that the apply below it has computed
abbrev pub may_project : Query → List ℕ → Bool
may_project (projected source before) places = false
may_project (applied source values) places = names_all (length (schema_of source).attributes) values places
may_project query places = true

abbrev pub is_settled : Query → Bool
is_settled (built schema e) = true
is_settled (listed schema rows) = true
is_settled (scanned leaf) = true
is_settled (filtered source test) = is_settled source
is_settled (applied source values) = is_settled source
is_settled (projected source places) = may_project source places && is_settled source
is_settled (between source area) = not (is_cellwise source) && is_settled source
is_settled (subarray source area) = is_settled source
is_settled (sliced source fixed) = is_settled source
is_settled (joined left right schema) = is_settled left && is_settled right
is_settled (crossed left right pairs schema) = is_settled left && is_settled right
is_settled (redimensioned source schema gs) = is_settled source
is_settled (regridded source sizes gs) = is_settled source
is_settled (windowed source reach gs) = is_settled source
is_settled (aggregated source gs places) = is_settled source
is_settled (sorted source keys schema) = is_settled source
is_settled (ranked source x dims) = is_settled source
is_settled (cumulated source gs n) = is_settled source
is_settled (transposed source) = is_settled source
is_settled (reversed source) = is_settled source
is_settled (unpacked source schema) = is_settled source
is_settled (xgridded source sizes) = is_settled source
is_settled (merged left right) = is_settled left && is_settled right
is_settled (concatenated left right) = is_settled left && is_settled right
