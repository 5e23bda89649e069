-- What aggregates of an array mean. A broken array stays broken.
use Rattle.std.specs.Prelude.{ℕ, List}
use Rattle.array_rows.specs.Arrays.{Meant}
use Rattle.array_rows.specs.Boxes.{bounds_of}
use Rattle.logical_plan.specs.declared.parts.Aggregate.{Aggregate}
use Rattle.logical_plan.specs.Groups.{aggregate_rows, regrid_rows}
use Rattle.logical_plan.specs.Meaning.{made}
use Rattle.logical_plan.specs.PlanSchema.{aggregate_schema, regrid_schema}

-- of the cells that agree in the named dimensions
abbrev pub aggregate_meant : List Aggregate → List ℕ → Meant → Meant
aggregate_meant gs places = made (aggregate_schema gs places) (λ s. aggregate_rows places gs)

-- of the cells of each block
abbrev pub regrid_meant : List ℕ → List Aggregate → Meant → Meant
regrid_meant sizes gs = made (regrid_schema sizes gs) (λ s. regrid_rows (bounds_of s.dimensions).lo.items sizes gs)
