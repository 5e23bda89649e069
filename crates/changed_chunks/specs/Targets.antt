-- How many chunks of its target an insert asks for, and how many the target has.
use Rattle.std.specs.Prelude.{◌≡◌, ℕ, List}
use Rattle.cell_values.specs.declared.datum.Row.{Row}
use Rattle.cell_values.specs.declared.schema.Dimension.{Dimension}
use Rattle.cell_values.specs.declared.schema.Schema.{Schema}
use Rattle.commit_pages.specs.Costs.{numbers_of}
use Rattle.logical_plan.specs.Query.{Query}
use Rattle.logical_plan.specs.declared.parts.Leaf.{Leaf}
use Rattle.plan_changes.specs.declared.change.Change.{Change}
use Rattle.plan_changes.specs.declared.change.Change.TheVariants.{Create, Store, Insert, Remove, RemoveVersions}
use Rattle.plan_changes.specs.Databases.{Database, fitted, newest_rows, rows_if_whole}
use Rattle.chunk_source.specs.Source.{SourceState}
use Rattle.changed_chunks.specs.declared.traces.asking.Asking.{Asking}
use Rattle.changed_chunks.specs.Listed.{listed_chunks}
use Rattle.changed_chunks.specs.Traced.{asking_where}
use Rattle.changed_chunks.specs.Wanted.{is_wanted}

-- ---- over a source

-- where rows are put in: the chunks of the target are those that the source lists
abbrev pub asking_over : SourceState → List Row → Leaf → Asking
asking_over source new target = asking_where (is_wanted target.schema.dimensions new) (listed_chunks source target)

-- no other change has a target
abbrev pub IsAskingOver : SourceState → Change → List Row → Leaf → Asking → Type 0
IsAskingOver source (Create name schema) new target asking = Unit {0}
IsAskingOver source (Store name schema plan) new target asking = Unit {0}
IsAskingOver source (Insert name schema plan) new target asking = asking ≡ asking_over source new target
IsAskingOver source (Remove name) new target asking = Unit {0}
IsAskingOver source (RemoveVersions name below) new target asking = Unit {0}

-- ---- in a database

-- where rows are put into those of a version, whose chunks are those whose core holds a row
abbrev pub asking_put : List Dimension → List Row → List Row → Asking
asking_put dims new old = asking_where (is_wanted dims new) (numbers_of dims old)

-- the rows of the plan's array are put into those of the newest version
abbrev pub target_asking : Database → List ℕ → Schema → Query → Asking
target_asking db name schema plan = asking_put schema.dimensions (rows_if_whole (fitted schema plan db)) (newest_rows db name)

abbrev pub IsTargetAsking : Database → Change → Asking → Type 0
IsTargetAsking db (Create name schema) asking = Unit {0}
IsTargetAsking db (Store name schema plan) asking = Unit {0}
IsTargetAsking db (Insert name schema plan) asking = asking ≡ target_asking db name schema plan
IsTargetAsking db (Remove name) asking = Unit {0}
IsTargetAsking db (RemoveVersions name below) asking = Unit {0}
