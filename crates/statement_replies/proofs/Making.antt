-- The chunks of a change, and what is asked for for them.
use Rattle.std.proofs.Common.{◌≡◌, ℕ, List, [], ◌++◌, None, Some, Result, Ok, Err, IfOk, OnErr, refl}
use Rattle.cell_values.specs.declared.datum.Broken.{Broken}
use Rattle.cell_values.specs.declared.datum.Row.{Row}
use Rattle.cell_values.specs.declared.schema.Schema.{Schema}
use Rattle.array_geom.specs.declared.chunk.Changed.{Changed}
use Rattle.logical_plan.specs.declared.names.Names.{Names}
use Rattle.logical_plan.specs.declared.parts.Leaf.{Leaf}
use Rattle.plan_changes.specs.declared.change.Change.{Change}
use Rattle.plan_changes.specs.declared.change.Change.TheVariants.{Create, Remove, RemoveVersions}
use Rattle.plan_changes.specs.Databases.{Database}
use Rattle.chunk_source.specs.declared.reading.fault.ExecFault.{ExecFault}
use Rattle.chunk_source.specs.Faults.{Answers}
use Rattle.chunk_source.specs.Source.{AsksFront, Keeps, SourceState}
use Rattle.chunk_source.proofs.ReadLemmas.{keeps_still}
use Rattle.commit_pages.specs.Changes.{AreValid, ComesWith}
use Rattle.changed_chunks.specs.declared.traces.asking.Asking.{Asking}
use Rattle.changed_chunks.specs.Changing.{AsksOnly, IsAnswerOver, IsToldOf, asked_for as asked_in, asked_of_all}
use Rattle.changed_chunks.specs.Targets.{IsTargetAsking}
use Rattle.statement_replies.specs.Traces.{newest_leaf}
use Rattle.statement_replies.specs.Inner.Come.{AreMade}
use Rattle.statement_replies.specs.Inner.Made.{IsPutUnder, chunks_or_fault}
use Rattle.statement_replies.specs.Outcomes.{IsMadeOf, all_of_change}
use Rattle.statement_replies.proofs.Asking.{none_made, put_asked, put_front}
use Rattle.statement_replies.proofs.Offers.{broken_made, put_plan, some_made}
use Rattle.statement_replies.proofs.Targets.{told_of}

-- ---- a change that puts a version

module _ (names : Names) (change : Change) (name : List ℕ) (schema : Schema) (target : Leaf) (is : target ≡ newest_leaf names name schema) (put : IsPutUnder name schema change)
    (old new : SourceState) (asking : Asking) where
  pub put_made : (r : Result (Result Changed Broken) ExecFault) → IfOk r (λ made. IfOk made (λ changed. ComesWith change (Some changed))) → IfOk r (λ made. IfOk made AreValid)
      → IfOk r (λ made. (db : Database) → IsToldOf old change target db → IsAnswerOver db change made)
      → IfOk r (λ made. IfOk made (λ changed. (db : Database) → IsToldOf old change target db → IsTargetAsking db change asking))
      → IfOk r (λ made. (db : Database) → IsToldOf old change target db → new.asked ≡ old.asked ++ asked_in db old change target made)
      → OnErr r ((db : Database) → IsToldOf old change target db → AsksFront (asked_of_all db old change target) old new)
      → AsksOnly old new change target asking r → Keeps old new → Answers old new r → AreMade names old new change asking (chunks_or_fault r)
  put_made (Ok (Ok changed)) comes valid tells counts asked front only kept cause = record {
    kind = (comes, valid);
    told = λ db there. some_made db change changed (tells db (told_of names change name schema target is put old db there));
    counted = λ db there. counts db (told_of names change name schema target is put old db there);
    asked = put_asked names change name schema target is put old new asking (Ok changed) asked only;
    front = tt;
    kept = kept;
    cause = cause;
  }
  put_made (Ok (Err broken)) comes valid tells counts asked front only kept cause = record {
    kind = put_plan name schema change put;
    told = λ db there. broken_made db change broken (tells db (told_of names change name schema target is put old db there));
    counted = tt;
    asked = put_asked names change name schema target is put old new asking (Err broken) asked only;
    front = tt;
    kept = kept;
    cause = cause;
  }
  put_made (Err fault) comes valid tells counts asked front only kept cause = record {
    kind = tt;
    told = tt;
    counted = tt;
    asked = tt;
    front = put_front names change name schema target is put old new front only;
    kept = kept;
    cause = cause;
  }

-- ---- one without a plan

module _ (names : Names) (source : SourceState) (asking : Asking) where
  none_is_made : (change : Change) → ComesWith change None → ((db : Database) → IsMadeOf db change None) → ((db : Database) → IsTargetAsking db change asking)
      → ((rows : List Row) → all_of_change rows source names change ≡ []) → AreMade names source source change asking (Ok (Ok None))
  none_is_made change comes tells counts none = record {
    kind = (comes, tt);
    told = λ db there. tells db;
    counted = λ db there. counts db;
    asked = none_made names source change none;
    front = tt;
    kept = keeps_still source;
    cause = refl;
  }

  pub create_made : (name : List ℕ) (schema : Schema) → AreMade names source source (Create name schema) asking (Ok (Ok None))
  create_made name schema = none_is_made (Create name schema) refl (λ db. record { stores = tt; whole = refl; chunks = tt }) (λ db. tt) (λ rows. refl)

  pub remove_made : (name : List ℕ) → AreMade names source source (Remove name) asking (Ok (Ok None))
  remove_made name = none_is_made (Remove name) refl (λ db. record { stores = tt; whole = refl; chunks = tt }) (λ db. tt) (λ rows. refl)

  pub cut_made : (name : List ℕ) (below : ℕ) → AreMade names source source (RemoveVersions name below) asking (Ok (Ok None))
  cut_made name below = none_is_made (RemoveVersions name below) refl (λ db. record { stores = tt; whole = refl; chunks = tt }) (λ db. tt) (λ rows. refl)
