-- The lines that tell what a change reads: one for each leaf of its plan, and one for an insert's target behind them.
use Rattle.std.specs.Prelude.{◌≡◌, ℕ, List, [], ◌∷◌, ◌++◌}
use Rattle.cell_values.specs.declared.schema.Schema.{Schema}
use Rattle.logical_plan.specs.declared.names.Names.{Names}
use Rattle.logical_plan.specs.declared.parts.Leaf.{Leaf}
use Rattle.logical_plan.specs.Leaves.{leaves}
use Rattle.plan_changes.specs.Changes.{newest_of}
use Rattle.plan_changes.specs.Databases.{Database, names_of, rows_of}
use Rattle.plan_changes.specs.declared.change.Change.{Change}
use Rattle.plan_changes.specs.declared.change.Change.TheVariants.{Create, Store, Insert, Remove, RemoveVersions}
use Rattle.changed_chunks.specs.declared.traces.asking.Asking.{Asking}
use Rattle.changed_chunks.specs.Traced.{askings_over, lines_of, plan_askings}
use Rattle.changed_chunks.specs.Targets.{IsTargetAsking, target_asking}
use Rattle.chunk_source.specs.Source.{SourceState}
use Rattle.chunk_exec.specs.Computed.{CanCompute}

-- the newest version of an array by these names, version 0 where there is none
abbrev pub newest_leaf : Names → List ℕ → Schema → Leaf
newest_leaf names name schema = record { name = name; version = newest_of names.arrays name; schema = schema }

-- the arrays that a change reads
abbrev pub read_by : Names → Change → List Leaf
read_by names (Create name schema) = []
read_by names (Store name schema plan) = leaves plan
read_by names (Insert name schema plan) = leaves plan ++ newest_leaf names name schema ∷ []
read_by names (Remove name) = []
read_by names (RemoveVersions name below) = []

-- ---- in a database

-- how many chunks of each it asks for
abbrev pub askings_by : Database → Change → List Asking
askings_by db (Create name schema) = []
askings_by db (Store name schema plan) = plan_askings (rows_of db) plan
askings_by db (Insert name schema plan) = plan_askings (rows_of db) plan ++ target_asking db name schema plan ∷ []
askings_by db (Remove name) = []
askings_by db (RemoveVersions name below) = []

abbrev pub change_lines : Database → Change → List ℕ
change_lines db change = lines_of (read_by (names_of db) change) (askings_by db change)

-- ---- over a source

-- where so many chunks of an insert's target are asked for
abbrev pub change_askings_over : SourceState → Asking → Change → List Asking
change_askings_over source target (Create name schema) = []
change_askings_over source target (Store name schema plan) = askings_over source plan
change_askings_over source target (Insert name schema plan) = askings_over source plan ++ target ∷ []
change_askings_over source target (Remove name) = []
change_askings_over source target (RemoveVersions name below) = []

abbrev pub change_lines_over : Names → SourceState → Asking → Change → List ℕ
change_lines_over names source target change = lines_of (read_by names change) (change_askings_over source target change)

-- the plan of a change can be computed
abbrev pub CanTrace : SourceState → Change → Type 0
CanTrace source (Create name schema) = Unit {0}
CanTrace source (Store name schema plan) = CanCompute source plan
CanTrace source (Insert name schema plan) = CanCompute source plan
CanTrace source (Remove name) = Unit {0}
CanTrace source (RemoveVersions name below) = Unit {0}

-- the source tells this database, which has these names, and in which so many chunks of an insert's target are asked for
pub record IsTracedIn (names : Names) (source : SourceState) (change : Change) (target : Asking) (db : Database) : Type 0 where
  pub named : names_of db ≡ names
  pub tells : source.tells (rows_of db)
  pub counted : IsTargetAsking db change target
