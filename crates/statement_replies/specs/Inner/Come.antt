-- What is known of what comes of a statement, and of a change before its outcome.
use Rattle.std.specs.Prelude.{◌≡◌, ℕ, ◌≤◌, ◌++◌, Option, None, Result, Ok, IfOk, OnErr}
use Rattle.cell_values.specs.declared.datum.Broken.{Broken}
use Rattle.array_geom.specs.declared.chunk.Changed.{Changed}
use Rattle.logical_plan.specs.declared.names.Names.{Names}
use Rattle.plan_changes.specs.declared.change.Change.{Change}
use Rattle.plan_changes.specs.Databases.{Database, names_of}
use Rattle.plan_changes.specs.Stored.{AreStored, HasItsNames}
use Rattle.plan_changes.specs.Typed.{IsTypedFor}
use Rattle.check_rules.specs.Checked.{Checked}
use Rattle.afl_types.specs.declared.types.statements.checking.Typed.{Typed}
use Rattle.afl_types.specs.declared.types.statements.checking.Typed.TheVariants.{Change as AChange}
use Rattle.chunk_source.specs.declared.reading.fault.ExecFault.{ExecFault}
use Rattle.chunk_source.specs.Faults.{Answers}
use Rattle.chunk_source.specs.Source.{AsksFront, Keeps, SourceState}
use Rattle.changed_chunks.specs.declared.traces.asking.Asking.{Asking}
use Rattle.changed_chunks.specs.Targets.{IsTargetAsking}
use Rattle.statement_replies.specs.Reading.{HoldsVersions}
use Rattle.statement_replies.specs.Statements.{reply_to_checked, reply_to_typed}
use Rattle.statement_replies.specs.Traces.{IsTracedIn}
use Rattle.statement_replies.specs.declared.replies.replies.Reply.{Reply}
use Rattle.statement_replies.specs.declared.replies.style.Style.{Style}
use Rattle.statement_replies.specs.declared.answers.outcome.Offer.{Offer}
use Rattle.statement_replies.specs.declared.answers.outcome.Outcome.{Outcome}
use Rattle.statement_replies.specs.Inner.Made.{HasChunks, IsAlike, IsMadeIn, asked_made, outcome_with}
use Rattle.statement_replies.specs.Outcomes.{ForRowsPut, HasOutcomeKind, IsOutcomeOf, IsToldBy, all_asked, all_of_change, asked_for}

-- statements over these names can be answered over the source, by so many workers
pub record CanRead (names : Names) (source : SourceState) (count : ℕ) : Type 0 where
  pub undamaged : source.damaged ≡ None
  pub stored : AreStored names
  pub holds : HoldsVersions names source
  pub workers : (1 ≤ count) × (count ≤ 64)

-- what comes of a statement that is checked so, over a source that was in the first of these states and is in the second one
pub record ComesOf (style : Style) (names : Names) (old new : SourceState) (checked : Checked Typed) (result : Result Outcome ExecFault) : Type 0 where
  pub kind : IfOk result (HasOutcomeKind style names checked)
  pub told : IfOk result (λ outcome. (db : Database) → IsToldBy names old db → IsOutcomeOf db (reply_to_checked style db checked) outcome)
  pub asked : IfOk result (λ outcome. ForRowsPut names old checked (λ rows. new.asked ≡ old.asked ++ asked_for rows old names checked outcome))
  pub front : OnErr result (ForRowsPut names old checked (λ rows. AsksFront (all_asked rows old names checked) old new))
  pub kept : Keeps old new
  pub cause : Answers old new result

-- the chunks that come with a change, or its fault, where so many chunks of an insert's target are asked for
pub record AreMade (names : Names) (old new : SourceState) (change : Change) (asking : Asking) (result : Result (Result (Option Changed) Broken) ExecFault) : Type 0 where
  pub kind : IfOk result (HasChunks change)
  pub told : IfOk result (λ made. (db : Database) → IsToldBy names old db → IsMadeIn db change made)
  pub counted : IfOk result (λ made. IfOk made (λ changed. (db : Database) → IsToldBy names old db → IsTargetAsking db change asking))
  pub asked : IfOk result (λ made. ForRowsPut names old (Ok (AChange change)) (λ rows. new.asked ≡ old.asked ++ asked_made rows old names change made))
  pub front : OnErr result (ForRowsPut names old (Ok (AChange change)) (λ rows. AsksFront (all_of_change rows old names change) old new))
  pub kept : Keeps old new
  pub cause : Answers old new result

-- what a change is answered that has these chunks or this fault: nothing more is asked for
pub record IsAnswered (style : Style) (names : Names) (old new : SourceState) (change : Change) (target : Asking)
    (made : Result (Option Changed) Broken) (result : Result (Result Offer Reply) ExecFault) : Type 0 where
  pub kind : HasItsNames change → IsTypedFor names change → HasChunks change made
      → IfOk result (λ offer. HasOutcomeKind style names (Ok (AChange change)) (outcome_with change offer))
  pub told : (db : Database) → names_of db ≡ names → IfOk made (λ changed. IsTracedIn names old change target db) → IsMadeIn db change made
      → IfOk result (λ offer. IsOutcomeOf db (reply_to_typed style db (AChange change)) (outcome_with change offer))
  pub alike : IfOk result (IsAlike made)
  pub asked : new.asked ≡ old.asked
  pub kept : Keeps old new
  pub cause : Answers old new result
