-- Changes that store the array of a plan: what is asked of them, what is read for them, and the answer to them.
use Rattle.std.specs.Prelude.{◌≡◌, List, [], ◌++◌, length, map, Option, None, Some, Result, Ok, Err, IfOk}
use Rattle.cell_values.specs.declared.datum.Broken.{Broken}
use Rattle.cell_values.specs.declared.datum.Row.{Row}
use Rattle.cell_values.specs.declared.schema.Schema.{Schema}
use Rattle.cell_values.specs.Schemas.{IsValid}
use Rattle.array_geom.specs.declared.chunk.Changed.{Changed}
use Rattle.logical_plan.specs.Faults.{fault_of}
use Rattle.logical_plan.specs.declared.names.NameEntry.{NameEntry}
use Rattle.logical_plan.specs.declared.parts.Leaf.{Leaf}
use Rattle.logical_plan.specs.Leaves.{leaves}
use Rattle.logical_plan.specs.Query.{Query}
use Rattle.plan_changes.specs.declared.change.Change.{Change}
use Rattle.plan_changes.specs.declared.change.Change.TheVariants.{Create, Store, Insert, Remove, RemoveVersions}
use Rattle.plan_changes.specs.Changes.{newest_of}
use Rattle.plan_changes.specs.Databases.{Database, fault_of_change, fitted, names_of, rows_if_whole, rows_of}
use Rattle.plan_changes.specs.Kept.{StoresArray}
use Rattle.plan_changes.specs.Stored.{IsDatabase}
use Rattle.plan_changes.specs.Typed.{FitsInto}
use Rattle.chunk_source.specs.declared.reading.fault.ExecFault.{ExecFault}
use Rattle.chunk_source.specs.declared.sources.asked.Asked.{Asked}
use Rattle.chunk_source.specs.Source.{AsksFront, SourceState, Reads, asks, listed}
use Rattle.chunk_exec.specs.Computed.{CanCompute, asked_for_plan}
use Rattle.commit_pages.specs.Changes.{IsChangeOf}
use Rattle.changed_chunks.specs.declared.traces.asking.Asking.{Asking}
use Rattle.changed_chunks.specs.Targets.{IsAskingOver}
use Rattle.changed_chunks.specs.Wanted.{target_wanted}

-- a plan that can be computed over the source, and a valid schema under which typing lets its array be stored
pub record CanStore (source : SourceState) (schema : Schema) (plan : Query) : Type 0 where
  pub computed : CanCompute source plan
  pub valid : IsValid schema
  pub fits : (entry : Option NameEntry) × FitsInto entry schema plan

-- a store or an insert of such a plan. An insert's target is a leaf of its array that the source has, or of version 0
abbrev pub CanChange : SourceState → Change → Leaf → Type 0
CanChange source (Create name schema) target = ⊥
CanChange source (Store name schema plan) target = CanStore source schema plan
CanChange source (Insert name schema plan) target = CanStore source schema plan × Reads source target × (target.schema ≡ schema)
CanChange source (Remove name) target = ⊥
CanChange source (RemoveVersions name below) target = ⊥

-- ---- what is read

-- the chunks that a change's plan needs
abbrev pub asked_of_plan : SourceState → Change → List Asked
asked_of_plan source (Create name schema) = []
asked_of_plan source (Store name schema plan) = asked_for_plan source plan
asked_of_plan source (Insert name schema plan) = asked_for_plan source plan
asked_of_plan source (Remove name) = []
asked_of_plan source (RemoveVersions name below) = []

-- an insert asks after them for the chunks of its target, which is one more leaf, that are wanted where these rows are put in
abbrev pub asked_with : List Row → SourceState → Change → Leaf → List Asked
asked_with rows source (Create name schema) target = []
asked_with rows source (Store name schema plan) target = asked_for_plan source plan
asked_with rows source (Insert name schema plan) target =
    asked_for_plan source plan ++ map (asks (length (leaves plan))) (target_wanted schema.dimensions rows (listed source target))
asked_with rows source (Remove name) target = []
asked_with rows source (RemoveVersions name below) target = []

-- where the plan's array has a fault the chunks that the plan needs alone
abbrev pub asked_or_fault : List Row → SourceState → Change → Leaf → Result Changed Broken → List Asked
asked_or_fault rows source change target (Ok changed) = asked_with rows source change target
asked_or_fault rows source change target (Err broken) = asked_of_plan source change

-- of an array with a fault no row is put in
abbrev pub unless_fault : Option Broken → List Row → List Row
unless_fault None rows = rows
unless_fault (Some broken) rows = []

abbrev pub rows_without_fault : Result (List Row) Broken → List Row
rows_without_fault array = unless_fault (fault_of array) (rows_if_whole array)

-- the rows that a change puts in, in a database
abbrev pub rows_put : Database → Change → List Row
rows_put db (Create name schema) = []
rows_put db (Store name schema plan) = rows_without_fault (fitted schema plan db)
rows_put db (Insert name schema plan) = rows_without_fault (fitted schema plan db)
rows_put db (Remove name) = []
rows_put db (RemoveVersions name below) = []

-- THE CHUNKS THAT ARE ASKED FOR IN A DATABASE: those wanted for the rows that it tells
abbrev pub asked_of_all : Database → SourceState → Change → Leaf → List Asked
asked_of_all db source change target = asked_with (rows_put db change) source change target

abbrev pub asked_for : Database → SourceState → Change → Leaf → Result Changed Broken → List Asked
asked_for db source change target made = asked_or_fault (rows_put db change) source change target made

-- Whatever the source tells: the chunks that the plan needs, and behind them listed chunks of the target alone, each once, which are
-- those wanted for some rows; and it is told how many these are, and how many are listed. Where the call fails, some first ones of such
-- chunks.
abbrev pub AsksOnly : SourceState → SourceState → Change → Leaf → Asking → Result (Result Changed Broken) ExecFault → Type 0
AsksOnly old new change target asking (Ok made) = (rows : List Row) × (new.asked ≡ old.asked ++ asked_or_fault rows old change target made)
    × IfOk made (λ changed. IsAskingOver old change rows target asking)
AsksOnly old new change target asking (Err fault) = (rows : List Row) × AsksFront (asked_with rows old change target) old new

-- ---- the answer

-- an insert's target is the newest version of its array, or of version 0 where there is none
abbrev pub IsTargetIn : Database → Change → Leaf → Type 0
IsTargetIn db (Create name schema) target = Unit {0}
IsTargetIn db (Store name schema plan) target = Unit {0}
IsTargetIn db (Insert name schema plan) target = (target.name ≡ name) × (target.version ≡ newest_of (names_of db).arrays name)
IsTargetIn db (Remove name) target = Unit {0}
IsTargetIn db (RemoveVersions name below) target = Unit {0}

-- the source tells this database, in which the target is the newest version
pub record IsToldOf (source : SourceState) (change : Change) (target : Leaf) (db : Database) : Type 0 where
  pub database : IsDatabase db
  pub tells : source.tells (rows_of db)
  pub newest : IsTargetIn db change target

-- the chunks of the change, where it has no fault, or its fault
abbrev pub IsAnswerIn : Database → Change → Result Changed Broken → Type 0
IsAnswerIn db change (Ok changed) = IsChangeOf db change changed
IsAnswerIn db change (Err broken) = fault_of_change db change ≡ Some broken

-- THE ANSWER IS THAT OF THE DATABASE: the plan means an array there, and the chunks or the fault are its change's
pub record IsAnswerOver (db : Database) (change : Change) (made : Result Changed Broken) : Type 0 where
  pub stores : StoresArray db change
  pub answer : IsAnswerIn db change made
