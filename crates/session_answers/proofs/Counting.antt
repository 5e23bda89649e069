-- How many chunks a statement reads.
use Rattle.std.proofs.Common.{◌≡◌, ◌∙◌, ◌≤◌, ℕ, true, List, inl, inr, length, Option, None, Ok, Err, refl, ap, sym, subst, arith}
use Rattle.std.specs.List.{list_all}
use Rattle.std.proofs.lemmas.Option.{none-some}
use Rattle.cell_values.specs.declared.datum.Row.{Row}
use Rattle.afl_outside.specs.Disk.{Moment}
use Rattle.afl_trees.specs.Term.{Term}
use Rattle.afl_types.specs.Checking.{check_of}
use Rattle.afl_types.specs.declared.types.statements.checking.Typed.{Typed}
use Rattle.afl_types.specs.declared.types.statements.checking.Typed.TheVariants.{Query as AQuery, Change as AChange, Versions, Show, ListArrays}
use Rattle.array_geom.specs.declared.chunk.Changed.{Changed}
use Rattle.check_rules.specs.Checked.{Checked}
use Rattle.chunk_source.specs.declared.reading.fault.ExecFault.{ExecFault}
use Rattle.chunk_source.specs.declared.reading.fault.ExecFault.TheVariants as faults
use Rattle.chunk_source.specs.declared.sources.asked.Asked.{Asked}
use Rattle.chunk_source.specs.Source.{SourceState}
use Rattle.event_core.specs.Cells.{at}
use Rattle.event_core.specs.History.{names_at}
use Rattle.logical_plan.specs.declared.names.Names.{Names}
use Rattle.logical_plan.specs.declared.parts.Leaf.{Leaf}
use Rattle.plan_changes.specs.Databases.{Database}
use Rattle.plan_changes.specs.declared.change.Change.{Change}
use Rattle.plan_changes.specs.declared.change.Change.TheVariants.{Create, Store, Insert, Remove, RemoveVersions}
use Rattle.result_print.specs.declared.refusal.Refusal.{Refusal}
use Rattle.result_print.specs.declared.refusal.Refusal.TheVariants.{Disk, Damaged, Memory}
use Rattle.statement_replies.specs.declared.answers.outcome.Outcome.{Outcome}
use Rattle.statement_replies.specs.declared.answers.outcome.Outcome.TheVariants.{Replied, Changes}
use Rattle.statement_replies.specs.Outcomes.{all_asked, asked_for, rows_put_by}
use Rattle.statement_replies.specs.declared.replies.replies.Reply.{Reply as Told}
use Rattle.statement_replies.specs.StatementKinds.{HasChangeKind, HasStatementKind, MayBreak}
use Rattle.statement_replies.specs.Statements.{Accepted, without_change}
use Rattle.statement_replies.specs.declared.replies.style.Style.{Style}
use Rattle.store_ledger.specs.declared.pinned.Pinned.{Pinned}
use Rattle.store_ledger.specs.Ledger.{IsOpenPin}
use Rattle.store_state.specs.declared.state.event.Event.{Event}
use Rattle.store_state.specs.Calls.{chunks_at, database_with}
use Rattle.snapshot_manager.specs.declared.seat.Seat.{Seat}
use Rattle.snapshot_manager.specs.declared.shared.Shared.{Shared}
use Rattle.session_answers.specs.declared.replies.reply.Reply.{Reply}
use Rattle.session_answers.specs.Refusals.{IsUnreadReply, IsWant, Refuses}
use Rattle.session_answers.specs.Replies.{names_before}
use Rattle.session_answers.specs.BehindPins.{HasDatabaseAt}
use Rattle.session_answers.proofs.Beginnings.{history_stays, places_see_the_same}
use Rattle.session_answers.proofs.Behind.{source_tells}
use Rattle.statement_replies.proofs.Listed.{listed_decide}
use Rattle.session_answers.proofs.PinPlaces.{open_pins_are_entered}
use Rattle.session_sources.specs.Courses.{AddsOwn}
use Rattle.session_sources.specs.Pinned.{pinned_state, unread}
use Rattle.snapshot_manager.specs.Seats.{read_count, seen, start}
use Rattle.snapshot_manager.specs.Start.{Start}
use Rattle.snapshot_manager.specs.Told.{entries_in, is_sealed, ledger_of, told}
use Rattle.session_answers.proofs.Under.{pin_within}
use Rattle.session_answers.specs.Inner.Steps.{WasRead}
use Rattle.session_answers.specs.Reads.{asked_at, counted, rows_put_at, source_at, CountsAt}

-- ---- an accepted statement reads all that it may read

not_broken : (style : Style) (names : Names) (change : Change) (words : Told) → MayBreak style names change (without_change words) → words.refusal ≡ None → ⊥
not_broken style names change words (inl is) accepts = none-some change is.1
not_broken style names change words (inr (broken, e)) accepts = none-some _ (sym accepts ∙ ap (λ (answer : Accepted). answer.reply.refusal) e)

not_accepted : (style : Style) (names : Names) (change : Change) (words : Told) → HasChangeKind style names change (without_change words) → words.refusal ≡ None → ⊥
not_accepted style names (Create name schema) words is accepts = none-some (Create name schema) is.1
not_accepted style names (Store name schema plan) words k accepts = not_broken style names (Store name schema plan) words k accepts
not_accepted style names (Insert name schema plan) words k accepts = not_broken style names (Insert name schema plan) words k accepts
not_accepted style names (Remove name) words is accepts = none-some (Remove name) is.1
not_accepted style names (RemoveVersions name below) words is accepts = none-some (RemoveVersions name below) is.1

replied_asks : (style : Style) (rows : List Row) (source : SourceState) (names : Names) (checked : Checked Typed) (words : Told) → HasStatementKind style names checked (without_change words) →
    words.refusal ≡ None → asked_for rows source names checked (Replied words) ≡ all_asked rows source names checked
replied_asks style rows source names (Ok (AQuery plan)) words k accepts = refl
replied_asks style rows source names (Ok (AChange change)) words k accepts = absurd (not_accepted style names change words k accepts)
replied_asks style rows source names (Ok (Versions name)) words k accepts = refl
replied_asks style rows source names (Ok (Show name)) words k accepts = refl
replied_asks style rows source names (Ok ListArrays) words k accepts = refl
replied_asks style rows source names (Err breach) words k accepts = refl

change_asks : (rows : List Row) (source : SourceState) (names : Names) (checked : Checked Typed) (change : Change) (changed : Option Changed) (words : Told) → checked ≡ Ok (AChange change) →
    asked_for rows source names checked (Changes change changed words) ≡ all_asked rows source names checked
change_asks rows source names checked change changed words e =
    subst (λ (c : Checked Typed). asked_for rows source names c (Changes change changed words) ≡ all_asked rows source names c) (sym e) refl

module _ {D : Type 0} (style : Style) (moment : D → Moment) (shared : Shared D) (pinned : Pinned) (old new : Seat D) (text : List ℕ) (tree : Term)
    (has : HasDatabaseAt moment (start moment shared) (seen old) pinned.place pinned.names) where
  abbrev source : SourceState
  source = pinned_state moment (unread shared pinned old)

  abbrev checked : Checked Typed
  checked = check_of tree text pinned.names

  abbrev IsCounted : Type 0
  IsCounted = CountsAt moment (start moment shared) (seen old) pinned.place pinned.names text tree (read_count old) (read_count new)

  module _ (outcome : Outcome) (w : WasRead style moment shared pinned old new text tree (Ok outcome))
      (same : (rows : List Row) → asked_for rows source pinned.names checked outcome ≡ all_asked rows source pinned.names checked) where
    count_for : (rows : List Row) → w.marks.asked ≡ asked_for rows source pinned.names checked outcome →
        read_count new ≡ counted (asked_at moment (start moment shared) (seen old) pinned.place pinned.names text tree rows) (read_count old)
    count_for rows asked = w.read.reads ∙ ap (λ (all : List Asked). counted all (read_count old)) (asked ∙ same rows)

    count_of : IsCounted
    count_of = record {
      in_database = λ db began. count_for (rows_put_at moment (start moment shared) (seen old) pinned.place pinned.names text tree db)
          (w.asked.told (database_with db (told (start moment shared) (seen old)) pinned.place) (source_tells moment (unread shared pinned old) has db began));
      some = (w.asked.some.0, count_for w.asked.some.0 w.asked.some.1);
    }

  pub replied_counts : (words : Told) → WasRead style moment shared pinned old new text tree (Ok (Replied words)) → words.refusal ≡ None → IsCounted
  replied_counts words w accepts = count_of (Replied words) w (λ rows. replied_asks style rows source pinned.names checked words w.comes.kind accepts)

  pub change_counts : (change : Change) (changed : Option Changed) (words : Told) → WasRead style moment shared pinned old new text tree (Ok (Changes change changed words)) →
      IsCounted
  change_counts change changed words w = count_of (Changes change changed words) w (λ rows. change_asks rows source pinned.names checked change changed words w.comes.kind.0)

-- ---- a reply that refuses

pub want_refuses : (reply : Reply) → IsWant reply → reply.refusal ≡ None → ⊥
want_refuses reply w accepts = none-some Memory (sym accepts ∙ w.1)

pub refusal_refuses : (refusal : Refusal) (reply : Reply) → Refuses refusal reply → reply.refusal ≡ None → ⊥
refusal_refuses refusal reply (inl e) accepts = none-some refusal (sym accepts ∙ ap (λ (words : Told). words.refusal) e)
refusal_refuses refusal reply (inr w) accepts = want_refuses reply w accepts

pub unread_refuses : (fault : ExecFault) (reply : Reply) → IsUnreadReply fault reply → reply.refusal ≡ None → ⊥
unread_refuses faults.Source reply u accepts = refusal_refuses Disk reply u accepts
unread_refuses (faults.Damaged page) reply u accepts = refusal_refuses (Damaged page) reply u accepts
unread_refuses faults.Memory reply u accepts = want_refuses reply u accepts

-- ---- what a pin sees is seen later

module _ {D : Type 0} (moment : D → Moment) (start : Start D) (session before after : ℕ) (mid new : List Event) (pinned : Pinned) (text : List ℕ) (tree : Term)
    (o : IsOpenPin (ledger_of start mid) pinned) (sealed : list_all is_sealed mid ≡ true) (own : List Event) (adds : AddsOwn session own mid new) where
  abbrev place : ℕ
  place = pinned.place

  within : place ≤ length (entries_in mid)
  within = let le = pin_within start mid pinned o in omega (arith, le)

  names_then : pinned.names ≡ names_before start new place
  names_then =
      sym (open_pins_are_entered D start mid pinned o).1
      ∙ sym (ap (λ h. names_at start.base h) (history_stays start mid adds.more place within))
      ∙ ap (λ (es : List Event). names_before start es place) (sym adds.grown)

  chunks_then : (leaf : Leaf) → chunks_at (told start mid) place leaf ≡ chunks_at (told start new) place leaf
  chunks_then leaf =
      sym ((places_see_the_same start mid adds.more place within sealed).chunks leaf)
      ∙ ap (λ (es : List Event). chunks_at (told start es) place leaf) (sym adds.grown)

  database_then : (db : Database) → database_with db (told start mid) place ≡ database_with db (told start new) place
  database_then db =
      sym (ap (at db) (history_stays start mid adds.more place within))
      ∙ ap (λ (es : List Event). database_with db (told start es) place) (sym adds.grown)

  asked_then : (rows : List Row) → asked_at moment start mid place pinned.names text tree rows ≡ asked_at moment start new place pinned.names text tree rows
  asked_then rows =
      listed_decide rows (source_at moment start mid place pinned.names) (source_at moment start new place pinned.names) chunks_then pinned.names
      (check_of tree text pinned.names)

  count_then : (rows : List Row) → after ≡ counted (asked_at moment start mid place pinned.names text tree rows) before →
      after ≡ counted (asked_at moment start new place pinned.names text tree rows) before
  count_then rows e = e ∙ ap (λ (all : List Asked). counted all before) (asked_then rows)

  rows_then : (db : Database) → rows_put_at moment start mid place pinned.names text tree db ≡ rows_put_at moment start new place pinned.names text tree db
  rows_then db = ap (λ (d : Database). rows_put_by d (check_of tree text pinned.names)) (database_then db)

  -- the count is the same, as the history then tells it
  pub counts_then : CountsAt moment start mid place pinned.names text tree before after → CountsAt moment start new place (names_before start new place) text tree before after
  counts_then counts = subst (λ (names : Names). CountsAt moment start new place names text tree before after) names_then (record {
    in_database = λ db began. count_then (rows_put_at moment start mid place pinned.names text tree db) (counts.in_database db began)
        ∙ ap (λ (rows : List Row). counted (asked_at moment start new place pinned.names text tree rows) before) (rows_then db);
    some = (counts.some.0, count_then counts.some.0 counts.some.1);
  })
