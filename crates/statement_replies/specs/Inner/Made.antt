-- What is made of a change before its outcome.
use Rattle.std.specs.Prelude.{◌≡◌, ℕ, List, Option, Some, Result, Ok, Err, IfSome, IsTrue}
use Rattle.cell_values.specs.declared.datum.Broken.{Broken}
use Rattle.cell_values.specs.declared.datum.Row.{Row}
use Rattle.cell_values.specs.declared.schema.Schema.{Schema}
use Rattle.array_geom.specs.declared.chunk.Changed.{Changed}
use Rattle.logical_plan.specs.declared.names.Names.{Names}
use Rattle.plan_changes.specs.declared.change.Change.{Change}
use Rattle.plan_changes.specs.declared.change.Change.TheVariants.{Create, Store, Insert, Remove, RemoveVersions}
use Rattle.plan_changes.specs.Changes.{has_array}
use Rattle.plan_changes.specs.Databases.{Database, fault_of_change}
use Rattle.plan_changes.specs.Typed.{IsTypedFor}
use Rattle.afl_types.specs.declared.types.statements.checking.Typed.{Typed}
use Rattle.afl_types.specs.declared.types.statements.checking.Typed.TheVariants.{Query as AQuery, Change as AChange, Versions, Show, ListArrays}
use Rattle.chunk_exec.specs.Computed.{CanCompute}
use Rattle.chunk_source.specs.declared.reading.fault.ExecFault.{ExecFault}
use Rattle.chunk_source.specs.declared.sources.asked.Asked.{Asked}
use Rattle.chunk_source.specs.Source.{SourceState}
use Rattle.commit_pages.specs.Changes.{AreValid, ComesWith}
use Rattle.changed_chunks.specs.Changing.{asked_of_plan}
use Rattle.statement_replies.specs.declared.replies.replies.Reply.{Reply}
use Rattle.statement_replies.specs.declared.answers.outcome.Offer.{Offer}
use Rattle.statement_replies.specs.declared.answers.outcome.Outcome.{Outcome}
use Rattle.statement_replies.specs.declared.answers.outcome.Outcome.TheVariants.{Replied, Changes}
use Rattle.statement_replies.specs.Outcomes.{IsMadeOf, all_of_change}

-- the change puts a version under this name, with this schema
abbrev pub IsPutUnder : List ℕ → Schema → Change → Type 0
IsPutUnder name schema (Create other shape) = ⊥
IsPutUnder name schema (Store other shape plan) = (other ≡ name) × (shape ≡ schema)
IsPutUnder name schema (Insert other shape plan) = (other ≡ name) × (shape ≡ schema)
IsPutUnder name schema (Remove other) = ⊥
IsPutUnder name schema (RemoveVersions other below) = ⊥

-- a change of a plan may have a fault
abbrev pub HasPlan : Change → Type 0
HasPlan (Create name schema) = ⊥
HasPlan (Store name schema plan) = Unit {0}
HasPlan (Insert name schema plan) = Unit {0}
HasPlan (Remove name) = ⊥
HasPlan (RemoveVersions name below) = ⊥

-- the chunks that come with a change, or its fault, whatever the source tells
abbrev pub HasChunks : Change → Result (Option Changed) Broken → Type 0
HasChunks change (Ok changed) = ComesWith change changed × IfSome changed AreValid
HasChunks change (Err broken) = HasPlan change

-- those of a change that writes some are those that come with it
abbrev pub with_chunks : Result Changed Broken → Result (Option Changed) Broken
with_chunks (Ok changed) = Ok (Some changed)
with_chunks (Err broken) = Err broken

abbrev pub chunks_or_fault : Result (Result Changed Broken) ExecFault → Result (Result (Option Changed) Broken) ExecFault
chunks_or_fault (Ok made) = Ok (with_chunks made)
chunks_or_fault (Err fault) = Err fault

-- those of the change, or its fault, in a database
abbrev pub IsMadeIn : Database → Change → Result (Option Changed) Broken → Type 0
IsMadeIn db change (Ok changed) = IsMadeOf db change changed
IsMadeIn db change (Err broken) = fault_of_change db change ≡ Some broken

-- what is asked for for them, where the change puts these rows in
abbrev pub asked_made : List Row → SourceState → Names → Change → Result (Option Changed) Broken → List Asked
asked_made rows source names change (Ok changed) = all_of_change rows source names change
asked_made rows source names change (Err broken) = asked_of_plan source change

-- the outcome of a change that is offered or refused
abbrev pub outcome_with : Change → Result Offer Reply → Outcome
outcome_with change (Ok offer) = Changes change offer.changed offer.reply
outcome_with change (Err reply) = Replied reply

-- or why there is none
abbrev pub offered : Change → Result (Result Offer Reply) ExecFault → Result Outcome ExecFault
offered change (Ok offer) = Ok (outcome_with change offer)
offered change (Err fault) = Err fault

-- a change that has its chunks is offered, one that has a fault is refused
abbrev pub IsAlike : Result (Option Changed) Broken → Result Offer Reply → Type 0
IsAlike (Ok changed) (Ok offer) = Unit {0}
IsAlike (Ok changed) (Err reply) = ⊥
IsAlike (Err broken) (Ok offer) = ⊥
IsAlike (Err broken) (Err reply) = Unit {0}

-- a typed statement can be answered over these names and the source: its plan can be computed, its change is allowed, its array stands
abbrev pub CanAnswer : Names → SourceState → Typed → Type 0
CanAnswer names source (AQuery plan) = CanCompute source plan
CanAnswer names source (AChange change) = IsTypedFor names change
CanAnswer names source (Versions name) = IsTrue (has_array names.arrays name)
CanAnswer names source (Show name) = IsTrue (has_array names.arrays name)
CanAnswer names source ListArrays = Unit {0}
