-- What a reply tells of its statement, at its place in the history of a store that is shared.
--
-- What holds at a place holds of the database after the commits before it. The reply to a query, and to a statement that lists something,
-- holds behind the statement's own pin. That of an accepted change holds before the change's own commit. A refusal for a rule or a cell
-- holds behind the pin, or, of a change, in the turn of the commit.
use Rattle.std.specs.Prelude.{◌≡◌, ◌≤◌, ◌<◌, ◌+◌, ◌-◌, ◌^◌, ◌⊎◌, ◌++◌, ℕ}
use Rattle.std.specs.Prelude.{false, List, [], Contains, length, slice_get, slice_index, Option, None, Some, IsSomeAnd, Ok}
use Rattle.arrayvec.specs.ArrayVec.{ArrayVec}
use Rattle.afl_outside.specs.Disk.{Moment}
use Rattle.afl_trees.specs.Term.{Term}
use Rattle.logical_plan.specs.declared.names.Names.{Names}
use Rattle.logical_plan.specs.declared.parts.Leaf.{Leaf}
use Rattle.plan_changes.specs.declared.change.Change.{Change}
use Rattle.plan_changes.specs.Databases.{Database}
use Rattle.afl_types.specs.Checking.{check_of}
use Rattle.afl_types.specs.declared.types.statements.checking.Typed.{Typed}
use Rattle.afl_types.specs.declared.types.statements.checking.Typed.TheVariants.{Change as AChange}
use Rattle.event_core.specs.declared.entry.Entry.{Entry}
use Rattle.event_core.specs.declared.entry.Entry.TheVariants.{Commit}
use Rattle.event_core.specs.declared.entry.Used.{Used}
use Rattle.event_core.specs.Bases.{sequence_at}
use Rattle.event_core.specs.History.{names_at}
use Rattle.result_print.specs.declared.refusal.Refusal.{Refusal}
use Rattle.result_print.specs.declared.refusal.Refusal.TheVariants.{HistoryFull, Typing, Cell, Disk, Damaged, SequenceEnd, Full, Memory}
use Rattle.result_print.specs.Lines.{line_of_refusal}
use Rattle.statement_replies.specs.declared.replies.replies.Reply.{Reply as Told}
use Rattle.statement_replies.specs.Statements.{Accepted, reply_to}
use Rattle.statement_replies.specs.StatementKinds.{HasStatementKind}
use Rattle.statement_replies.specs.declared.replies.style.Style.{Style}
use Rattle.store_ledger.specs.declared.note.NoteKind.TheVariants.{Fault}
use Rattle.store_ledger.specs.Ledger.{has_room}
use Rattle.store_state.specs.declared.state.event.Event.{Event}
use Rattle.store_state.specs.declared.state.event.Event.TheVariants.{Noted}
use Rattle.store_state.specs.Calls.{database_with, history_at, payload_at, IsLeafOf}
use Rattle.store_state.specs.Payloads.{HasTold, WasDamagedAt}
use Rattle.store_state.specs.Standings.{base_of, BeganAs}
use Rattle.array_store.specs.declared.store.start.Start.{Start}
use Rattle.array_store.specs.declared.told.commits.fault.CommitFault.{CommitFault}
use Rattle.array_store.specs.declared.told.commits.fault.CommitFault.TheVariants as faults
use Rattle.array_store.specs.Causes.{FitsAfter, IsUncommitted}
use Rattle.array_store.specs.Told.{entries_in, ledger_of, told}
use Rattle.session_answers.specs.Acts.{Course, nothing, looking, trying, making}
use Rattle.session_answers.specs.declared.replies.reply.Reply.{Reply}

-- the names at a place of the history
abbrev pub names_before : {D : Type 0} → Start D → List Event → ℕ → Names
names_before start events place = names_at start.base (history_at (told start events) place)

-- a reply without its place
abbrev pub words_of : Reply → Told
words_of reply = record { text = reply.text; refusal = reply.refusal }

-- THIS IS WHAT THE STATEMENT SAYS AT A PLACE, in a style of replies: what the names there alone tell, and, where the file began as a
-- database, what its meaning is in the database after the commits before the place
pub record Says {D : Type 0} (style : Style) (moment : D → Moment) (start : Start D) (events : List Event) (text : List ℕ) (tree : Term)
    (place : ℕ) (answer : Accepted) : Type 0 where
  pub kind : HasStatementKind style (names_before start events place) (check_of tree text (names_before start events place)) answer
  pub told : (db : Database) → BeganAs (moment start.opened.disk).state db → reply_to style (database_with db (told start events) place) text tree ≡ answer

-- it is this change at a place, and one that is accepted
pub record SaysChange {D : Type 0} (style : Style) (moment : D → Moment) (start : Start D) (events : List Event) (text : List ℕ) (tree : Term)
    (place : ℕ) (change : Change) : Type 0 where
  pub typed : check_of tree text (names_before start events place) ≡ Ok (AChange change)
  pub told : (db : Database) → BeganAs (moment start.opened.disk).state db
      → (reply_to style (database_with db (told start events) place) text tree).change ≡ Some change

-- by the names at a place it is a change
abbrev pub IsChangeAt : {D : Type 0} → Start D → List Event → List ℕ → Term → ℕ → Type 0
IsChangeAt start events text tree place = (change : Change) × (check_of tree text (names_before start events place) ≡ Ok (AChange change))

-- by the names at a place it breaks no rule
abbrev pub IsAllowedAt : {D : Type 0} → Start D → List Event → List ℕ → Term → ℕ → Type 0
IsAllowedAt start events text tree place = (typed : Typed) × (check_of tree text (names_before start events place) ≡ Ok typed)

-- an entry came at a place, behind so many entries
pub record EnteredAt (least : ℕ) (entry : Entry) (place : ℕ) (events : List Event) : Type 0 where
  pub is : slice_get (entries_in events) place ≡ Some entry
  pub later : least ≤ place

-- once the events were these, and they had so many entries
pub record WasAt (place : ℕ) (then now : List Event) : Type 0 where
  pub later : List Event
  pub grown : now ≡ then ++ later
  pub count : place ≡ length (entries_in then)

-- a note says that the disk failed for the session
abbrev pub HasFault : ℕ → List Event → Type 0
HasFault session own = (after : ℕ) × Contains own (Noted (record { session = session; kind = Fault; after = after }))

-- DAMAGE: the payload of some chunk of an array that could be named at a place begins at a page. Where an honest disk told its bytes as it was
-- opened, a payload was listed then that begins there, and by that array's schema it wasn't whole
pub record IsDamagedPage {D : Type 0} (moment : D → Moment) (start : Start D) (events : List Event) (place page : ℕ) : Type 0 where
  pub leaf : Leaf
  pub at : ArrayVec ℕ
  pub named : IsLeafOf (names_before start events place) leaf
  pub begins : IsSomeAnd (payload_at (told start events) place leaf at) (λ entry. page ≡ slice_index entry.pages 0)
  pub was : (file : List ℕ) → HasTold (moment start.opened.disk).state file → WasDamagedAt page (told start events).first file leaf.schema

-- the file began as no database
abbrev pub BeganAsNone : {D : Type 0} → (D → Moment) → Start D → Type 0
BeganAsNone moment start = (db : Database) → BeganAs (moment start.opened.disk).state db → ⊥

-- at a place there was a next sequence number, and there were the pages that a change needs
pub record HadRoomFor {D : Type 0} (moment : D → Moment) (start : Start D) (events : List Event) (place : ℕ) (change : Change) : Type 0 where
  pub next : sequence_at (base_of (told start events)) (history_at (told start events) place) < 2 ^ 64 - 1
  pub fits : FitsAfter moment (told start events) (history_at (told start events) place) change

-- behind these events, at a place, the history had no room for a pin
pub record HadNoRoom {D : Type 0} (start : Start D) (old new : List Event) (place : ℕ) : Type 0 where
  pub then : List Event
  pub others : List Event
  pub behind : then ≡ old ++ others
  pub at : WasAt place then new
  pub full : has_room (ledger_of start then) 4 ≡ false

-- the text of a refusal is its line
abbrev pub HasLine : Reply → Option Refusal → Type 0
HasLine reply None = Unit {0}
HasLine reply (Some Memory) = reply.text ≡ []
HasLine reply (Some refusal) = reply.text ≡ line_of_refusal refusal

module _ {D : Type 0} (moment : D → Moment) (start : Start D) (session pin : ℕ) (new own : List Event) (text : List ℕ) (tree : Term) (reply : Reply) where
  -- the reply's place is that behind the pin, which came at this place; or a later one
  abbrev pub HoldsBehindPin : Type 0
  HoldsBehindPin = reply.place ≡ pin + 1

  abbrev pub HoldsSincePin : Type 0
  HoldsSincePin = (pin < reply.place) × (reply.place ≤ length (entries_in new))

  -- a refusal holds right behind the pin; at a later place only where the statement was a change there
  abbrev pub HoldsWhereRefused : Type 0
  HoldsWhereRefused = HoldsBehindPin ⊎ (HoldsSincePin × IsChangeAt start new text tree (pin + 1))

  -- it is that of the commit of a change
  abbrev pub HoldsBeforeCommit : Change → Type 0
  HoldsBeforeCommit change = (used : Used) × EnteredAt pin (Commit session change used) reply.place new

  module _ (style : Style) where
    -- at its place the statement has this reply, and is no change that is accepted
    abbrev pub SaysReply : Type 0
    SaysReply = Says style moment start new text tree reply.place (record { reply = words_of reply; change = None })

    -- at its place the statement was this change, and this was why it was not committed
    abbrev pub WasUncommitted : Change → CommitFault → Type 0
    WasUncommitted change fault = SaysChange style moment start new text tree reply.place change
        × ((then : List Event) × WasAt reply.place then new × IsUncommitted moment session change (told start then) fault)

    -- THE REPLY TO A TREE, BY ITS REFUSAL AND BY WHAT THE STATEMENT DID
    abbrev pub IsToldFor : Option Refusal → Course → Type 0
    IsToldFor None looking = HoldsBehindPin × SaysReply
    IsToldFor None (making change) = HoldsBeforeCommit change
        × Says style moment start new text tree reply.place (record { reply = words_of reply; change = Some change })
        × HadRoomFor moment start new reply.place change
    IsToldFor (Some (Typing span kind)) looking = HoldsWhereRefused × SaysReply
    IsToldFor (Some (Cell at kind)) looking = HoldsWhereRefused × SaysReply
    IsToldFor (Some HistoryFull) nothing = (then : List Event) × WasAt reply.place then new × (has_room (ledger_of start then) 4 ≡ false)
    IsToldFor (Some Disk) looking = HoldsWhereRefused × HasFault session own × IsAllowedAt start new text tree reply.place
    IsToldFor (Some Disk) (trying change) = HoldsSincePin × HasFault session own × WasUncommitted change (faults.Disk reply.place)
    IsToldFor (Some (Damaged page)) looking = HoldsWhereRefused × IsDamagedPage moment start new reply.place page × BeganAsNone moment start
        × IsAllowedAt start new text tree reply.place
    IsToldFor (Some SequenceEnd) (trying change) = HoldsSincePin × WasUncommitted change (faults.SequenceEnd reply.place)
    IsToldFor (Some (Full needed free)) (trying change) = HoldsSincePin × WasUncommitted change (faults.Full needed free reply.place)
    IsToldFor (Some Memory) nothing = Unit {0}
    IsToldFor (Some Memory) looking = Unit {0}
    IsToldFor (Some Memory) (trying change) = (place : ℕ) × (pin < place) × (place ≤ length (entries_in new))
        × SaysChange style moment start new text tree place change
    IsToldFor _ _ = ⊥
