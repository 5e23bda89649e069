-- A plan with a box and a project that are to be put on it, operator by operator.
use Rattle.std.specs.Prelude.{ℕ, Bool, true, false, if◌then◌else◌, List, length, Option, Some, None}
use Rattle.cell_values.specs.declared.schema.Bounds.{Bounds}
use Rattle.logical_plan.specs.declared.arity.UnaryNode.{UnaryNode}
use Rattle.logical_plan.specs.declared.arity.UnaryNode.TheVariants.{Filter, Apply, Project, Between}
use Rattle.logical_plan.specs.declared.parts.Applied.{Applied}
use Rattle.logical_plan.specs.PlanSchema.{schema_of}
use Rattle.logical_plan.specs.Query.{Query, built, listed, scanned, filtered, applied, projected, between, subarray}
use Rattle.logical_plan.specs.Query.{sliced, joined, crossed, redimensioned, regridded, windowed, aggregated}
use Rattle.logical_plan.specs.Query.{sorted, ranked, cumulated, transposed, reversed, unpacked, xgridded, merged, concatenated}
use Rattle.plan_rewrite.specs.Inner.Pending.{shown, pending}
use Rattle.plan_rewrite.specs.Inner.Trimmed.{met, picked, kept_for, places_for, names_none}

-- an apply, the first of whose attributes has place n, with what a project on it leaves of it
abbrev pub applied_for : ℕ → List Applied → Option (List ℕ) → Query → Query
applied_for n values places source = shown (places_for n values places) (applied source (kept_for n values places))

-- neither a box nor a project goes below the operator
abbrev pub keeps_above : UnaryNode → Bool
keeps_above (Filter test) = false
keeps_above (Apply values) = false
keeps_above (Project places) = false
keeps_above (Between area) = false
keeps_above node = true

abbrev pub settle : Option Bounds → Option (List ℕ) → Query → Query
settle area places (built schema e) = pending area places (built schema e)
settle area places (listed schema rows) = pending area places (listed schema rows)
settle area places (scanned leaf) = pending area places (scanned leaf)
settle area places (filtered source test) = shown places (filtered (settle area None source) test)
settle area places (applied source values) =
    if names_none (length (schema_of source).attributes) places then settle area places source
    else applied_for (length (schema_of source).attributes) values places (settle area None source)
settle area places (projected source own) = settle area (Some (picked places own)) source
settle area places (between source own) = settle (Some (met area own)) places source
settle area places (subarray source own) = pending area places (subarray (settle None None source) own)
settle area places (sliced source fixed) = pending area places (sliced (settle None None source) fixed)
settle area places (joined left right schema) = pending area places (joined (settle None None left) (settle None None right) schema)
settle area places (crossed left right pairs schema) = pending area places (crossed (settle None None left) (settle None None right) pairs schema)
settle area places (redimensioned source schema gs) = pending area places (redimensioned (settle None None source) schema gs)
settle area places (regridded source sizes gs) = pending area places (regridded (settle None None source) sizes gs)
settle area places (windowed source reach gs) = pending area places (windowed (settle None None source) reach gs)
settle area places (aggregated source gs groups) = pending area places (aggregated (settle None None source) gs groups)
settle area places (sorted source keys schema) = pending area places (sorted (settle None None source) keys schema)
settle area places (ranked source x dims) = pending area places (ranked (settle None None source) x dims)
settle area places (cumulated source gs n) = pending area places (cumulated (settle None None source) gs n)
settle area places (transposed source) = pending area places (transposed (settle None None source))
settle area places (reversed source) = pending area places (reversed (settle None None source))
settle area places (unpacked source schema) = pending area places (unpacked (settle None None source) schema)
settle area places (xgridded source sizes) = pending area places (xgridded (settle None None source) sizes)
settle area places (merged left right) = pending area places (merged (settle None None left) (settle None None right))
settle area places (concatenated left right) = pending area places (concatenated (settle None None left) (settle None None right))
