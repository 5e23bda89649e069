-- How a statement goes in a turn, from the store as it was found to the one that is handed back.
use Rattle.std.specs.Prelude.{◌≡◌, ◌+◌, ◌-◌, ◌^◌, ◌<◌, ◌≤◌, ℕ, false, List, [], length, Option, Some, Result, Ok, Err, IfOk, IfErr, IsTrue, OnOk, OnErr}
use Rattle.afl_outside.specs.Disk.{Moment}
use Rattle.afl_trees.specs.Term.{Term}
use Rattle.array_geom.specs.declared.chunk.Changed.{Changed}
use Rattle.chunk_source.specs.declared.reading.fault.ExecFault.{ExecFault}
use Rattle.chunk_source.specs.declared.reading.fault.ExecFault.TheVariants.{Source, Damaged, Memory}
use Rattle.plan_changes.specs.declared.change.Change.{Change}
use Rattle.statement_replies.specs.declared.answers.outcome.Outcome.{Outcome}
use Rattle.afl_types.specs.Checking.{check_of}
use Rattle.statement_replies.specs.declared.answers.outcome.Outcome.TheVariants.{Replied, Changes}
use Rattle.statement_replies.specs.Outcomes.{MayFail}
use Rattle.statement_replies.specs.declared.replies.replies.Reply.{Reply as Told}
use Rattle.statement_replies.specs.declared.replies.style.Style.{Style}
use Rattle.snapshot_manager.specs.Owners.{ExtendsByOwn}
use Rattle.snapshot_manager.specs.Turn.{Turn}
use Rattle.store_state.specs.declared.state.parts.StoreParts.{StoreParts}
use Rattle.store_state.specs.At.{standing}
use Rattle.check_exprs.specs.Laws.{leaves_fit}
use Rattle.event_core.specs.Allowed.{is_pinned}
use Rattle.event_core.specs.Bases.{sequence_at}
use Rattle.store_ledger.specs.Ledger.{history, is_noted, is_tried}
use Rattle.store_state.specs.Calls.{history_at}
use Rattle.store_state.specs.Events.{events, owner_of}
use Rattle.store_state.specs.Standings.{base_of, Standing}
use Rattle.snapshot_manager.specs.Tried.{AddsSealed, AddsTried}
use Rattle.snapshot_manager.specs.Causes.{FitsAfter, IsUncommitted}
use Rattle.snapshot_manager.specs.CommitFault.{CommitFault}
use Rattle.snapshot_manager.specs.Databases.{HasDatabase}
use Rattle.snapshot_manager.specs.Starts.{start_of}
use Rattle.snapshot_manager.specs.declared.seat.Seat.{Seat}
use Rattle.snapshot_manager.specs.Seats.{store_of, HasTurn}
use Rattle.session_sources.specs.Held.{held_state, holding_of, names_now, unheld, HasHeld}
use Rattle.session_sources.specs.declared.marks.Marks.{Marks}
use Rattle.session_answers.specs.Refusals.{IsUncommittedReply, IsUnreadReply, IsWant}
use Rattle.session_answers.specs.BehindPins.{ComesOver}
use Rattle.session_answers.specs.Replies.{words_of}
use Rattle.session_answers.specs.declared.replies.reply.Reply.{Reply}
use Rattle.session_answers.specs.declared.turns.settings.Options.{Options}

-- the store of a turn
abbrev pub store_in : {D : Type 0} → (D → Moment) → Turn (StoreParts D) → Standing D
store_in moment turn = standing moment (store_of turn)

-- the turn is still that of the seat whose it was, its store began as it did, and what was added is the session's own, or nobody's
pub record KeepsTurn {D : Type 0} (moment : D → Moment) (session : ℕ) (old new : Turn (StoreParts D)) : Type 0 where
  pub turn : (seat : Seat D) → HasTurn seat old → HasTurn seat new
  pub start : start_of (store_in moment new) ≡ start_of (store_in moment old)
  pub extends : ExtendsByOwn owner_of session (events (store_in moment old)) (events (store_in moment new))

-- what holds of the store of a turn before a statement of a session is answered over it
pub record IsOver {D : Type 0} (options : Options) (moment : D → Moment) (session : ℕ) (turn : Turn (StoreParts D)) (tree : Term) : Type 0 where
  pub pinned : IsTrue (is_pinned session (history (store_of turn).ledger))
  pub tried : is_noted is_tried (store_of turn).ledger session ≡ false
  pub database : HasDatabase moment (store_in moment turn) (length (store_of turn).ledger.entries) (names_now (store_of turn).ledger)
  pub fit : IsTrue (leaves_fit tree)
  pub workers : (1 ≤ options.workers) × (options.workers ≤ 64)

-- why a source gave no answer, by what it kept
abbrev pub IsWhy : Marks → ExecFault → Type 0
IsWhy marks Source = 0 < marks.faults
IsWhy marks (Damaged page) = marks.damaged ≡ Some page
IsWhy marks Memory = Unit {0}

-- the store was read for a statement, of which this came, or this fault
pub record IsRead {D : Type 0} (style : Style) (moment : D → Moment) (session : ℕ) (old new : Turn (StoreParts D))
    (text : List ℕ) (tree : Term) (outcome : Result Outcome ExecFault) : Type 0 where
  pub marks : Marks
  pub held : HasHeld moment (holding_of session old new marks)
  pub comes : IfOk outcome (ComesOver style (names_now (store_of old).ledger) (held_state moment (unheld session old)) text tree)
  pub why : IfErr outcome (IsWhy marks)
  pub allowed : IfErr outcome (λ fault. MayFail fault (check_of tree text (names_now (store_of old).ledger)))

-- the reply to a commit that was tried, when so many entries were seen then
abbrev pub TellsCommit : ℕ → Told → Result ℕ CommitFault → Reply → Type 0
TellsCommit count words (Ok place) reply = (words_of reply ≡ words) × (reply.place ≡ place)
TellsCommit count words (Err fault) reply = IsUncommittedReply count fault reply

-- a commit of a change was tried, and its answer is told, by these words where it was made
pub record IsTried {D : Type 0} (moment : D → Moment) (session : ℕ) (change : Change) (words : Told) (old new : Standing D) (reply : Reply) : Type 0 where
  pub answer : Result ℕ CommitFault
  pub done : OnOk answer (AddsSealed session change old new)
  pub place : IfOk answer (λ place. place + 1 ≡ length new.ledger.entries)
  pub next : IfOk answer (λ place. sequence_at (base_of new) (history_at new place) < 2 ^ 64 - 1)
  pub fits : IfOk answer (λ place. FitsAfter moment new (history_at new place) change)
  pub err : OnErr answer (AddsTried session change [] old new)
  pub cause : IfErr answer (IsUncommitted moment session change new)
  pub tells : TellsCommit (length new.ledger.entries) words answer reply

-- what came of a statement is answered, and the turn is the same, or a change was tried in it
abbrev pub Follows : {D : Type 0} → (D → Moment) → ℕ → Turn (StoreParts D) → Turn (StoreParts D) → Reply → Result Outcome ExecFault → Type 0
Follows moment session old new reply (Ok (Replied words)) =
    (new ≡ old) × (words_of reply ≡ words) × (reply.place ≡ length (store_of new).ledger.entries)
Follows moment session old new reply (Ok (Changes change changed words)) =
    IsTried moment session change words (store_in moment old) (store_in moment new) reply
Follows moment session old new reply (Err fault) = (new ≡ old) × IsUnreadReply fault reply × (reply.place ≡ length (store_of new).ledger.entries)

-- HOW A STATEMENT GOES: no memory was found for the names; it has a reply alone; its source gave no answer; or its change was tried
pub data Goes {D : Type 0} (style : Style) (moment : D → Moment) (session : ℕ) (old new : Turn (StoreParts D))
    (text : List ℕ) (tree : Term) (reply : Reply) : Type 0 where
  goes_short : store_in moment new ≡ store_in moment old → IsWant reply → reply.place ≡ length (store_of new).ledger.entries
      → Goes style moment session old new text tree reply
  goes_told : IsRead style moment session old new text tree (Ok (Replied (words_of reply))) → reply.place ≡ length (store_of new).ledger.entries
      → Goes style moment session old new text tree reply
  goes_unread : (fault : ExecFault) → IsRead style moment session old new text tree (Err fault) → IsUnreadReply fault reply
      → reply.place ≡ length (store_of new).ledger.entries → Goes style moment session old new text tree reply
  goes_tried : (between : Turn (StoreParts D)) (change : Change) (changed : Option Changed) (words : Told)
      → IsRead style moment session old between text tree (Ok (Changes change changed words))
      → IsTried moment session change words (store_in moment between) (store_in moment new) reply → Goes style moment session old new text tree reply
