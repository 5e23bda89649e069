-- What is asked for where a statement puts rows in.
use Rattle.std.proofs.Common.{◌≡◌, ℕ, List, [], ◌++◌, Option, Result, Ok, Err, refl, sym, ap, subst, ◌∙◌, append_assoc}
use Rattle.std.proofs.lemmas.List.{append-nil}
use Rattle.cell_values.specs.declared.datum.Broken.{Broken}
use Rattle.cell_values.specs.declared.datum.Row.{Row}
use Rattle.cell_values.specs.declared.schema.Schema.{Schema}
use Rattle.array_geom.specs.declared.chunk.Changed.{Changed}
use Rattle.logical_plan.specs.declared.names.Names.{Names}
use Rattle.logical_plan.specs.declared.parts.Leaf.{Leaf}
use Rattle.plan_changes.specs.declared.change.Change.{Change}
use Rattle.plan_changes.specs.declared.change.Change.TheVariants.{Create, Store, Insert, Remove, RemoveVersions}
use Rattle.plan_changes.specs.Databases.{Database}
use Rattle.check_rules.specs.Checked.{Checked}
use Rattle.afl_types.specs.declared.types.statements.checking.Typed.{Typed}
use Rattle.afl_types.specs.declared.types.statements.checking.Typed.TheVariants.{Change as AChange}
use Rattle.chunk_source.specs.declared.sources.asked.Asked.{Asked}
use Rattle.chunk_source.specs.Source.{SourceState, AsksFront}
use Rattle.chunk_source.proofs.ReadLemmas.{asked_all, asked_none}
use Rattle.changed_chunks.specs.declared.traces.asking.Asking.{Asking}
use Rattle.changed_chunks.specs.Changing.{AsksOnly, IsToldOf, asked_for as asked_in, asked_of_all, asked_of_plan, asked_or_fault, asked_with, rows_put}
use Rattle.statement_replies.specs.declared.replies.replies.Reply.{Reply}
use Rattle.statement_replies.specs.Traces.{newest_leaf}
use Rattle.statement_replies.specs.declared.answers.outcome.Outcome.TheVariants.{Replied}
use Rattle.statement_replies.specs.Inner.Made.{IsPutUnder, asked_made, with_chunks}
use Rattle.statement_replies.specs.Outcomes.{ForRowsPut, all_asked, all_of_change, asked_for}
use Rattle.statement_replies.proofs.Targets.{told_of}

-- ---- for whichever rows

module _ (names : Names) (source : SourceState) (checked : Checked Typed) where
  -- it holds for all rows
  pub for_each : (Holds : List Row → Type 0) → ((rows : List Row) → Holds rows) → ForRowsPut names source checked Holds
  for_each Holds each = record { told = λ db there. each _; some = ([], each []) }

  -- where one thing holds for some rows, another does
  pub for_same : (Holds Follows : List Row → Type 0) → ((rows : List Row) → Holds rows → Follows rows) → ForRowsPut names source checked Holds → ForRowsPut names source checked Follows
  for_same Holds Follows step put = record { told = λ db there. step _ (put.told db there); some = (put.some.0, step put.some.0 put.some.1) }

  -- nothing was asked for
  pub none_asked : (new : SourceState) → new.asked ≡ source.asked → ForRowsPut names source checked (λ rows. AsksFront (all_asked rows source names checked) source new)
  none_asked new same = for_each _ (λ rows. asked_none (all_asked rows source names checked) source new same)

  -- a listing and a broken rule ask for nothing
  pub nothing_asked : (reply : Reply) → ((rows : List Row) → asked_for rows source names checked (Replied reply) ≡ [])
      → ForRowsPut names source checked (λ rows. source.asked ≡ source.asked ++ asked_for rows source names checked (Replied reply))
  nothing_asked reply none = for_each _ (λ rows. sym (append-nil source.asked) ∙ ap (λ (all : List Asked). source.asked ++ all) (sym (none rows)))

-- ---- what a change asks for

module _ (names : Names) (change : Change) (name : List ℕ) (schema : Schema) (target : Leaf) (is : target ≡ newest_leaf names name schema) (put : IsPutUnder name schema change)
    (old new : SourceState) where
  abbrev Puts : (List Row → Type 0) → Type 0
  Puts = ForRowsPut names old (Ok (AChange change))

  of_target : (change : Change) → IsPutUnder name schema change → (rows : List Row) → asked_with rows old change target ≡ all_of_change rows old names change
  of_target (Create other shape) put rows = absurd put
  of_target (Store other shape plan) put rows = refl
  of_target (Insert other shape plan) put rows =
      ap (asked_with rows old (Insert other shape plan)) (is ∙ sym (λ i. newest_leaf names (put.0 i) (put.1 i)))
  of_target (Remove other) put rows = absurd put
  of_target (RemoveVersions other below) put rows = absurd put

  of_made : (made : Result Changed Broken) (rows : List Row) → asked_or_fault rows old change target made ≡ asked_made rows old names change (with_chunks made)
  of_made (Ok changed) rows = of_target change put rows
  of_made (Err broken) rows = refl

  pub put_asked : (asking : Asking) (made : Result Changed Broken) → ((db : Database) → IsToldOf old change target db → new.asked ≡ old.asked ++ asked_in db old change target made)
      → AsksOnly old new change target asking (Ok made) → Puts (λ rows. new.asked ≡ old.asked ++ asked_made rows old names change (with_chunks made))
  put_asked asking made told only = record {
    told = λ db there. told db (told_of names change name schema target is put old db there) ∙ ap (λ (all : List Asked). old.asked ++ all) (of_made made (rows_put db change));
    some = (only.0, only.1 ∙ ap (λ (all : List Asked). old.asked ++ all) (of_made made only.0));
  }

  pub put_front : ((db : Database) → IsToldOf old change target db → AsksFront (asked_of_all db old change target) old new)
      → (rows : List Row) × AsksFront (asked_with rows old change target) old new → Puts (λ rows. AsksFront (all_of_change rows old names change) old new)
  put_front told only = record {
    told = λ db there. subst (λ (all : List Asked). AsksFront all old new) (of_target change put (rows_put db change)) (told db (told_of names change name schema target is put old db there));
    some = (only.0, subst (λ (all : List Asked). AsksFront all old new) (of_target change put only.0) only.1);
  }

-- a change without a plan asks for nothing
pub none_made : (names : Names) (source : SourceState) (change : Change) → ((rows : List Row) → all_of_change rows source names change ≡ [])
    → ForRowsPut names source (Ok (AChange change)) (λ rows. source.asked ≡ source.asked ++ all_of_change rows source names change)
none_made names source change none =
    for_each names source (Ok (AChange change)) _ (λ rows. sym (append-nil source.asked) ∙ ap (λ (all : List Asked). source.asked ++ all) (sym (none rows)))

-- nothing is asked for behind it
pub asked_still : (names : Names) (old mid new : SourceState) (change : Change) (made : Result (Option Changed) Broken) → new.asked ≡ mid.asked
    → ForRowsPut names old (Ok (AChange change)) (λ rows. mid.asked ≡ old.asked ++ asked_made rows old names change made)
    → ForRowsPut names old (Ok (AChange change)) (λ rows. new.asked ≡ old.asked ++ asked_made rows old names change made)
asked_still names old mid new change made same = for_same names old (Ok (AChange change)) _ _ (λ rows asked. same ∙ asked)

-- ---- what was asked for where its reply found no memory

-- more would have been asked for behind them
front_more : (all more : List Asked) (old new : SourceState) → AsksFront all old new → AsksFront (all ++ more) old new
front_more all more old new front = record {
  done = front.done;
  rest = front.rest ++ more;
  in_order = ap (λ (z : List Asked). z ++ more) front.in_order ∙ append_assoc front.done front.rest more;
  asked = front.asked;
}

module _ (names : Names) (old new : SourceState) where
  -- the chunks that the plan needs come first
  front_of_plan : (change : Change) (rows : List Row) → AsksFront (asked_of_plan old change) old new → AsksFront (all_of_change rows old names change) old new
  front_of_plan (Create name schema) rows front = front
  front_of_plan (Store name schema plan) rows front = front
  front_of_plan (Insert name schema plan) rows front = front_more (asked_of_plan old (Insert name schema plan)) _ old new front
  front_of_plan (Remove name) rows front = front
  front_of_plan (RemoveVersions name below) rows front = front

  front_of_made : (change : Change) (made : Result (Option Changed) Broken) (rows : List Row) → new.asked ≡ old.asked ++ asked_made rows old names change made
      → AsksFront (all_of_change rows old names change) old new
  front_of_made change (Ok changed) rows asked = asked_all (all_of_change rows old names change) old new asked
  front_of_made change (Err broken) rows asked = front_of_plan change rows (asked_all (asked_of_plan old change) old new asked)

  -- all of them, whether the change has a fault or not
  pub front_made : (change : Change) (made : Result (Option Changed) Broken) → ForRowsPut names old (Ok (AChange change)) (λ rows. new.asked ≡ old.asked ++ asked_made rows old names change made)
      → ForRowsPut names old (Ok (AChange change)) (λ rows. AsksFront (all_of_change rows old names change) old new)
  front_made change made = for_same names old (Ok (AChange change)) _ _ (front_of_made change made)
