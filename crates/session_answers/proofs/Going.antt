-- What each call in a turn leaves.
use Rattle.std.proofs.Common.{◌≡◌, ◌∙◌, ℕ, ◌<◌, false, List, [], ◌++◌, length, Option, None, Result, Ok, Err, IfOk, IfErr, IsTrue, refl, ap, sym, subst, arith, append-nil, append_assoc}
use Rattle.afl_outside.specs.Counts.{Rose}
use Rattle.afl_outside.specs.Disk.{Moment}
use Rattle.afl_trees.specs.Term.{Term}
use Rattle.array_geom.specs.declared.chunk.Changed.{Changed}
use Rattle.chunk_source.specs.Faults.{Answers}
use Rattle.chunk_source.specs.Source.{SourceState}
use Rattle.chunk_source.specs.declared.reading.fault.ExecFault.{ExecFault}
use Rattle.chunk_source.specs.declared.reading.fault.ExecFault.TheVariants.{Source, Damaged, Memory}
use Rattle.logical_plan.specs.declared.names.Names.{Names}
use Rattle.plan_changes.specs.declared.change.Change.{Change}
use Rattle.plan_changes.specs.Databases.{Database}
use Rattle.afl_types.specs.Checking.{check_of}
use Rattle.event_core.specs.Allowed.{is_pinned}
use Rattle.event_core.specs.Cells.{at}
use Rattle.statement_replies.specs.declared.answers.outcome.Outcome.{Outcome}
use Rattle.statement_replies.specs.declared.answers.outcome.Outcome.TheVariants.{Replied, Changes}
use Rattle.statement_replies.specs.Outcomes.{HasOutcomeKind, IsMadeOf, IsOutcomeOf, IsToldBy, MayFail}
use Rattle.statement_replies.specs.declared.replies.replies.Reply.{Reply as Told}
use Rattle.statement_replies.specs.Reading.{HoldsVersions}
use Rattle.statement_replies.specs.Statements.{reply_to}
use Rattle.statement_replies.specs.declared.replies.style.Style.{Style}
use Rattle.snapshot_manager.specs.Owners.{is_open_to}
use Rattle.snapshot_manager.specs.Turn.{Turn}
use Rattle.store_ledger.specs.Ledger.{history, is_noted, is_tried}
use Rattle.store_state.specs.declared.state.event.Event.{Event}
use Rattle.store_state.specs.declared.state.parts.StoreParts.{StoreParts}
use Rattle.store_state.specs.Calls.{IsLeafOf}
use Rattle.store_state.specs.Events.{events, owner_of}
use Rattle.store_state.specs.Standings.{Standing}
use Rattle.snapshot_manager.specs.Databases.{HasDatabase}
use Rattle.session_sources.specs.Held.{held_state, holding_of, names_now, store_then, unheld, HasHeld}
use Rattle.snapshot_manager.specs.Prepared.{IsAsked, MayBeMade}
use Rattle.snapshot_manager.specs.Seats.{store_of}
use Rattle.session_sources.specs.declared.holding.Holding.{Holding}
use Rattle.session_sources.specs.declared.holding.LentTurn.{LentTurn}
use Rattle.session_sources.specs.declared.marks.Marks.{Marks}
use Rattle.session_sources.proofs.VersionLaws.{held_sources_hold_versions}
use Rattle.session_answers.specs.BehindPins.{ComesOver}
use Rattle.session_answers.specs.Inner.Turns.{store_in, Follows, Goes, IsRead, IsWhy, KeepsTurn, goes_told, goes_tried, goes_unread}
use Rattle.session_answers.specs.declared.replies.reply.Reply.{Reply}
use Rattle.session_answers.proofs.Adding.{all_append}
use Rattle.session_answers.proofs.Present.{source_tells}

-- ---- the turn is kept

module _ {D : Type 0} (moment : D → Moment) (session : ℕ) where
  pub keeps_same : (old new : Turn (StoreParts D)) → new ≡ old → KeepsTurn moment session old new
  keeps_same old new e = subst (λ (turn : Turn (StoreParts D)). KeepsTurn moment session old turn) (sym e)
      (record { turn = λ seat has. has; start = refl; extends = ([], sym (append-nil (events (store_in moment old))), refl) })

  pub keeps_both : (old between new : Turn (StoreParts D)) → KeepsTurn moment session old between → KeepsTurn moment session between new → KeepsTurn moment session old new
  keeps_both old between new a b = record {
    turn = λ seat has. b.turn seat (a.turn seat has);
    start = b.start ∙ a.start;
    extends = (
      a.extends.0 ++ b.extends.0,
      b.extends.1 ∙ ap (λ (es : List Event). es ++ b.extends.0) a.extends.1 ∙ append_assoc (events (store_in moment old)) a.extends.0 b.extends.0,
      all_append (λ event. is_open_to (owner_of event) session) a.extends.0 b.extends.0 a.extends.2 b.extends.2,
    );
  }

  pub keeps_read : (old new : Turn (StoreParts D)) (marks : Marks) → HasHeld moment (holding_of session old new marks) → KeepsTurn moment session old new
  keeps_read old new marks held = record { turn = held.turn; start = held.start; extends = held.extends }

-- ---- what a source says of a statement

comes_by : (style : Style) (names : Names) (source : SourceState) (text : List ℕ) (tree : Term) (result : Result Outcome ExecFault) →
    IfOk result (HasOutcomeKind style names (check_of tree text names)) →
    IfOk result (λ outcome. (db : Database) → IsToldBy names source db → IsOutcomeOf db (reply_to style db text tree) outcome) → IfOk result (ComesOver style names source text tree)
comes_by style names source text tree (Ok outcome) kind told = record { kind = kind; told = told }
comes_by style names source text tree (Err fault) kind told = tt

rose_some : (before now : ℕ) → before ≡ 0 → Rose before now → 0 < now
rose_some before now none rose = omega (arith, none, rose)

why_by : (result : Result Outcome ExecFault) (before now : SourceState) (marks : Marks) → before.faults ≡ 0 → now.faults ≡ marks.faults → now.damaged ≡ marks.damaged →
    Answers before now result → IfErr result (IsWhy marks)
why_by (Ok outcome) before now marks none faults damaged cause = tt
why_by (Err Source) before now marks none faults damaged cause = subst (λ (n : ℕ). 0 < n) faults (rose_some before.faults now.faults none cause.0)
why_by (Err (Damaged page)) before now marks none faults damaged cause = sym damaged ∙ cause
why_by (Err Memory) before now marks none faults damaged cause = tt

module _ {D : Type 0} (moment : D → Moment) (session : ℕ) (old : Turn (StoreParts D)) (start : Holding D) (made : start ≡ unheld session old)
    (names : Names) (named : names ≡ names_now (store_of old).ledger) where
  pub start_whole : (held_state moment start).damaged ≡ None
  start_whole = ap (λ (h : Holding D). h.marks.damaged) made

  pub start_holds : HoldsVersions names (held_state moment start)
  start_holds leaf of =
      let same : names ≡ names_now (store_then moment start).ledger = named ∙ ap (λ (h : Holding D). names_now (store_then moment h).ledger) (sym made) in
      held_sources_hold_versions moment start leaf (subst (λ (ns : Names). IsLeafOf ns leaf) same of)

  -- A STATEMENT WAS READ IN A TURN
  pub read_by : (style : Style) (new : Turn (StoreParts D)) (h : Holding D) → h.lent ≡ start.lent → new ≡ h.turn → HasHeld moment h →
      (text : List ℕ) (tree : Term) (result : Result Outcome ExecFault) →
      IfOk result (HasOutcomeKind style names (check_of tree text names)) →
      IfOk result (λ outcome. (db : Database) → IsToldBy names (held_state moment start) db → IsOutcomeOf db (reply_to style db text tree) outcome) →
      Answers (held_state moment start) (held_state moment h) result → IfErr result (λ fault. MayFail fault (check_of tree text names)) →
      IsRead style moment session old new text tree result
  read_by style new h lent turn held text tree result kind told cause allowed = record {
    marks = h.marks;
    held = subst (λ (t : Turn (StoreParts D)). HasHeld moment (holding_of session old t h.marks)) (sym turn)
        (subst (λ (l : LentTurn D). HasHeld moment (record { lent = l; turn = h.turn; marks = h.marks })) (lent ∙ ap (λ (x : Holding D). x.lent) made) held);
    comes = subst (λ (ns : Names). IfOk result (ComesOver style ns (held_state moment (unheld session old)) text tree)) named
        (subst (λ (x : Holding D). IfOk result (ComesOver style names (held_state moment x) text tree)) made
        (comes_by style names (held_state moment start) text tree result kind told));
    why = why_by result (held_state moment start) (held_state moment h) h.marks (ap (λ (x : Holding D). x.marks.faults) made) refl refl cause;
    allowed = subst (λ (ns : Names). IfErr result (λ fault. MayFail fault (check_of tree text ns))) named allowed;
  }

-- ---- a change that was read may be committed in the turn

may_be_made : (db : Database) (change : Change) (changed : Option Changed) → IsMadeOf db change changed → MayBeMade db change changed
may_be_made db change changed m = record { stores = m.stores; fault = m.whole; chunks = m.chunks }

module _ {D : Type 0} (moment : D → Moment) (style : Style) (session : ℕ) (old new : Turn (StoreParts D))
    (has : HasDatabase moment (store_in moment old) (length (store_of old).ledger.entries) (names_now (store_of old).ledger))
    (text : List ℕ) (tree : Term) (outcome : Result Outcome ExecFault) (read : IsRead style moment session old new text tree outcome) where
  pub pinned_read : IsTrue (is_pinned session (history (store_of new).ledger))
  pinned_read = subst (λ (x : Standing D). IsTrue (is_pinned session (history x.ledger))) (sym read.held.same) read.held.pinned

  pub tried_read : is_noted is_tried (store_of old).ledger session ≡ false → is_noted is_tried (store_of new).ledger session ≡ false
  tried_read untried = read.held.tried ∙ untried

  pub asked_read : (change : Change) (changed : Option Changed) (words : Told) → outcome ≡ Ok (Changes change changed words) → IsAsked moment (store_in moment new) change changed
  asked_read change changed words is =
      let over : ComesOver style (names_now (store_of old).ledger) (held_state moment (unheld session old)) text tree (Changes change changed words) =
      subst (λ (o : Result Outcome ExecFault). IfOk o (ComesOver style (names_now (store_of old).ledger) (held_state moment (unheld session old)) text tree)) is read.comes in
      subst (λ (x : Standing D). IsAsked moment x change changed) (sym read.held.same) (record {
        named = over.kind.1.named;
        typed = over.kind.1.typed;
        comes = over.kind.1.comes;
        valid = over.kind.1.valid;
        told = λ db began. may_be_made (at db (history (store_of old).ledger)) change changed
            (over.told (at db (history (store_of old).ledger)) (source_tells moment session old has db began)).1;
      })

-- ---- the statement goes as it was read and answered

module _ {D : Type 0} (moment : D → Moment) (style : Style) (session : ℕ) (old between new : Turn (StoreParts D)) (text : List ℕ) (tree : Term) (reply : Reply) where
  pub goes_on : (outcome : Result Outcome ExecFault) → IsRead style moment session old between text tree outcome → Follows moment session between new reply outcome →
      Goes style moment session old new text tree reply
  goes_on (Ok (Replied words)) read (same, said, at) =
      let now : IsRead style moment session old new text tree (Ok (Replied words)) =
      subst (λ (turn : Turn (StoreParts D)). IsRead style moment session old turn text tree (Ok (Replied words))) (sym same) read in
      goes_told (subst (λ (ws : Told). IsRead style moment session old new text tree (Ok (Replied ws))) (sym said) now) at
  goes_on (Ok (Changes change changed words)) read tried = goes_tried between change changed words read tried
  goes_on (Err fault) read (same, said, at) =
      goes_unread fault (subst (λ (turn : Turn (StoreParts D)). IsRead style moment session old turn text tree (Err fault)) (sym same) read) said at
