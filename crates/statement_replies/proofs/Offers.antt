-- Changes that are offered or refused.
use Rattle.std.proofs.Common.{◌≡◌, inr, ℕ, List, ◌++◌, Option, Some, Result, Ok, Err, IfOk, IfSome, refl, sym, ap, subst, ◌∙◌}
use Rattle.cell_values.specs.declared.datum.Broken.{Broken}
use Rattle.cell_values.specs.declared.schema.Schema.{Schema}
use Rattle.array_geom.specs.declared.chunk.Changed.{Changed}
use Rattle.logical_plan.specs.declared.names.Names.{Names}
use Rattle.plan_changes.specs.declared.change.Change.{Change}
use Rattle.plan_changes.specs.declared.change.Change.TheVariants.{Create, Store, Insert, Remove, RemoveVersions}
use Rattle.plan_changes.specs.Databases.{Database, fault_of_change, names_of, rows_of}
use Rattle.plan_changes.specs.Stored.{HasItsNames}
use Rattle.plan_changes.specs.Typed.{IsTypedFor}
use Rattle.afl_types.specs.declared.types.statements.checking.Typed.TheVariants.{Change as AChange}
use Rattle.chunk_source.specs.declared.reading.fault.ExecFault.{ExecFault}
use Rattle.chunk_source.specs.Faults.{Answers}
use Rattle.chunk_source.specs.Source.{Keeps, SourceState}
use Rattle.chunk_source.proofs.ReadLemmas.{keeps_on, keeps_still}
use Rattle.commit_pages.specs.Changes.{AreValid, ComesWith}
use Rattle.changed_chunks.specs.declared.traces.asking.Asking.{Asking}
use Rattle.changed_chunks.specs.Changing.{IsAnswerOver}
use Rattle.changed_chunks.specs.Targets.{IsTargetAsking}
use Rattle.statement_replies.specs.Reply.{cell_reply, traced}
use Rattle.statement_replies.specs.StatementKinds.{IsChangeReply}
use Rattle.statement_replies.specs.Statements.{Accepted, accepted, change_reply, changed_or_broken, reply_to_typed, without_change}
use Rattle.statement_replies.specs.Traces.{IsTracedIn, change_lines}
use Rattle.statement_replies.specs.declared.replies.replies.Reply.{Reply}
use Rattle.statement_replies.specs.declared.replies.style.Style.{Style}
use Rattle.statement_replies.specs.declared.answers.outcome.Offer.{Offer}
use Rattle.statement_replies.specs.declared.answers.outcome.Outcome.TheVariants.{Replied}
use Rattle.statement_replies.specs.Inner.Come.{AreMade, ComesOf, IsAnswered}
use Rattle.statement_replies.specs.Inner.Made.{HasChunks, HasPlan, IsAlike, IsMadeIn, IsPutUnder, asked_made, offered, outcome_with}
use Rattle.statement_replies.specs.Outcomes.{ForRowsPut, HasOutcomeKind, IsMadeOf, IsOutcomeOf, IsToldBy, asked_by_change}
use Rattle.statement_replies.proofs.Asking.{asked_still, front_made}
use Rattle.statement_replies.proofs.Causes.{answers_before}

-- ---- the chunks of a change

pub some_made : (db : Database) (change : Change) (changed : Changed) → IsAnswerOver db change (Ok changed) → IsMadeIn db change (Ok (Some changed))
some_made db change changed is = record { stores = is.stores; whole = is.answer.fault; chunks = is.answer }

-- what a change that puts a version may come to
pub put_plan : (name : List ℕ) (schema : Schema) (change : Change) → IsPutUnder name schema change → HasPlan change
put_plan name schema (Create other shape) put = put
put_plan name schema (Store other shape plan) put = tt
put_plan name schema (Insert other shape plan) put = tt
put_plan name schema (Remove other) put = put
put_plan name schema (RemoveVersions other below) put = put

pub broken_made : (db : Database) (change : Change) (broken : Broken) → IsAnswerOver db change (Err broken) → IsMadeIn db change (Err broken)
broken_made db change broken is = is.answer

-- ---- an offer

offer_kind : (style : Style) (names : Names) (change : Change) (changed : Option Changed) (offer : Offer) → HasItsNames change → IsTypedFor names change → HasChunks change (Ok changed) → offer.changed ≡ changed
    → IsChangeReply style names change offer.reply → HasOutcomeKind style names (Ok (AChange change)) (outcome_with change (Ok offer))
offer_kind style names change changed offer named typed has same reply = (
  refl,
  record {
    named = named;
    typed = typed;
    comes = subst (ComesWith change) (sym same) has.0;
    valid = subst (λ (o : Option Changed). IfSome o AreValid) (sym same) has.1;
  },
  reply,
)

abbrev with_reply : Change → Reply → Accepted
with_reply change reply = record { reply = reply; change = Some change }

offer_told : (style : Style) (names : Names) (db : Database) (change : Change) (changed : Option Changed) (offer : Offer) → names_of db ≡ names → IsMadeIn db change (Ok changed) → offer.changed ≡ changed
    → offer.reply ≡ change_reply names (traced style (change_lines db change)) change → IsOutcomeOf db (reply_to_typed style db (AChange change)) (outcome_with change (Ok offer))
offer_told style names db change changed offer named made same reply =
    let lines = traced style (change_lines db change) in (
      ap (changed_or_broken (names_of db) lines change) made.whole ∙ ap (λ (n : Names). accepted n lines change) named ∙ ap (with_reply change) (sym reply),
      subst (IsMadeOf db change) (sym same) made,
    )

-- what is told of the target in a database
is_traced : (names : Names) (old mid : SourceState) (change : Change) (target : Asking) (db : Database) → Keeps old mid → IsToldBy names old db → IsTargetAsking db change target
    → IsTracedIn names mid change target db
is_traced names old mid change target db kept there counted = record { named = there.named; tells = (kept.tells (rows_of db)).1 there.tells; counted = counted }

traced_where : (names : Names) (old mid : SourceState) (change : Change) (target : Asking) (made : Result (Option Changed) Broken) → Keeps old mid
    → IfOk made (λ changed. (db : Database) → IsToldBy names old db → IsTargetAsking db change target)
    → (db : Database) → IsToldBy names old db → IfOk made (λ changed. IsTracedIn names mid change target db)
traced_where names old mid change target (Ok changed) kept counted db there = is_traced names old mid change target db kept there (counted db there)
traced_where names old mid change target (Err broken) kept counted db there = tt

-- ---- a refusal

fault_kind : (style : Style) (names : Names) (change : Change) (broken : Broken) (reply : Reply) → HasPlan change → reply ≡ cell_reply broken → HasOutcomeKind style names (Ok (AChange change)) (Replied reply)
fault_kind style names (Create name schema) broken reply has e = absurd has
fault_kind style names (Store name schema plan) broken reply has e = inr (broken, ap without_change e)
fault_kind style names (Insert name schema plan) broken reply has e = inr (broken, ap without_change e)
fault_kind style names (Remove name) broken reply has e = absurd has
fault_kind style names (RemoveVersions name below) broken reply has e = absurd has

fault_told : (style : Style) (db : Database) (change : Change) (broken : Broken) (reply : Reply) → fault_of_change db change ≡ Some broken → reply ≡ cell_reply broken
    → reply_to_typed style db (AChange change) ≡ without_change reply
fault_told style db change broken reply fault e = ap (changed_or_broken (names_of db) (traced style (change_lines db change)) change) fault ∙ ap without_change (sym e)

-- ---- what an offer or a refusal comes to

module _ (names : Names) (old new : SourceState) (change : Change) where
  asked_alike : (made : Result (Option Changed) Broken) (r : Result (Result Offer Reply) ExecFault) → IfOk r (IsAlike made)
      → ForRowsPut names old (Ok (AChange change)) (λ rows. new.asked ≡ old.asked ++ asked_made rows old names change made)
      → IfOk r (λ offer. ForRowsPut names old (Ok (AChange change)) (λ rows. new.asked ≡ old.asked ++ asked_by_change rows old names change (outcome_with change offer)))
  asked_alike (Ok changed) (Ok (Ok offer)) alike h = h
  asked_alike (Ok changed) (Ok (Err reply)) alike h = absurd alike
  asked_alike (Err broken) (Ok (Ok offer)) alike h = absurd alike
  asked_alike (Err broken) (Ok (Err reply)) alike h = h
  asked_alike made (Err fault) alike h = tt

module _ (style : Style) (names : Names) (change : Change) (target : Asking) where
  pub offer_is : (old new : SourceState) (changed : Option Changed) (reply : Reply) → IsChangeReply style names change reply
      → ((db : Database) → IsTracedIn names old change target db → reply ≡ change_reply names (traced style (change_lines db change)) change)
      → new.asked ≡ old.asked → Keeps old new → new.damaged ≡ old.damaged
      → IsAnswered style names old new change target (Ok changed) (Ok (Ok (record { changed = changed; reply = reply })))
  offer_is old new changed reply kind tells asked kept cause =
      let offer : Offer = record { changed = changed; reply = reply } in
      record {
        kind = λ named typed has. offer_kind style names change changed offer named typed has refl kind;
        told = λ db named there made. offer_told style names db change changed offer named made refl (tells db there);
        alike = tt;
        asked = asked;
        kept = kept;
        cause = cause;
      }

  pub refusal_is : (source : SourceState) (broken : Broken) (reply : Reply) → reply ≡ cell_reply broken → IsAnswered style names source source change target (Err broken) (Ok (Err reply))
  refusal_is source broken reply e = record {
    kind = λ named typed has. fault_kind style names change broken reply has e;
    told = λ db named there made. fault_told style db change broken reply made e;
    alike = tt;
    asked = refl;
    kept = keeps_still source;
    cause = refl;
  }

  pub none_is : (old new : SourceState) (made : Result (Option Changed) Broken) (fault : ExecFault) → new.asked ≡ old.asked → Keeps old new → Answers {T = Result Offer Reply} old new (Err fault)
      → IsAnswered style names old new change target made (Err fault)
  none_is old new made fault asked kept cause = record {
    kind = λ named typed has. tt;
    told = λ db named there is. tt;
    alike = tt;
    asked = asked;
    kept = kept;
    cause = cause;
  }

  -- behind the chunks
  pub offer_comes : (old mid new : SourceState) (made : Result (Option Changed) Broken) (r : Result (Result Offer Reply) ExecFault) → HasItsNames change → IsTypedFor names change
      → AreMade names old mid change target (Ok made) → IsAnswered style names mid new change target made r → ComesOf style names old new (Ok (AChange change)) (offered change r)
  offer_comes old mid new made (Ok offer) named typed are is = record {
    kind = is.kind named typed are.kind;
    told = λ db there. is.told db there.named (traced_where names old mid change target made are.kept are.counted db there) (are.told db there);
    asked = asked_alike names old new change made (Ok offer) is.alike (asked_still names old mid new change made is.asked are.asked);
    front = tt;
    kept = keeps_on old mid new are.kept is.kept;
    cause = answers_before (Ok offer) old mid new are.kept are.cause is.cause;
  }
  offer_comes old mid new made (Err fault) named typed are is = record {
    kind = tt;
    told = tt;
    asked = tt;
    front = front_made names old new change made (asked_still names old mid new change made is.asked are.asked);
    kept = keeps_on old mid new are.kept is.kept;
    cause = answers_before {T = Result Offer Reply} (Err fault) old mid new are.kept are.cause is.cause;
  }
