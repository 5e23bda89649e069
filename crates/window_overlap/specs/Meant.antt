-- What windows of an array mean. A broken array stays broken.
use Rattle.std.specs.Prelude.{List}
use Rattle.array_rows.specs.Arrays.{Meant}
use Rattle.logical_plan.specs.declared.parts.Aggregate.{Aggregate}
use Rattle.logical_plan.specs.declared.parts.Reach.{Reach}
use Rattle.logical_plan.specs.Groups.{window_rows}
use Rattle.logical_plan.specs.Meaning.{made}
use Rattle.logical_plan.specs.PlanSchema.{window_schema}

-- around each cell the aggregates of the cells in its window
abbrev pub window_meant : List Reach → List Aggregate → Meant → Meant
window_meant reach gs = made (window_schema gs) (λ s. window_rows reach gs)
