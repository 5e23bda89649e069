-- Sessions that wait for their thread, sessions that have ended, and the reaper's seat.
use Rattle.std.specs.Prelude.{◌≡◌, ◌<◌, ◌≤◌, ℕ, true, All, List, [], length, slice_get, slice_index_or, Option, Some}
use Rattle.afl_lexer.specs.Inner.Standing.{StandsAfter}
use Rattle.afl_outside.specs.Disk.{Moment}
use Rattle.afl_outside.specs.Sink.{SinkState}
use Rattle.afl_outside.specs.Source.{SourceState}
use Rattle.turn_lock.specs.Owners.{none_of}
use Rattle.store_state.specs.Events.{owner_of}
use Rattle.snapshot_manager.specs.declared.seat.Seat.{Seat}
use Rattle.snapshot_manager.specs.declared.shared.Shared.{Shared}
use Rattle.snapshot_manager.specs.Seats.{seen, session_of, start, IsIdle, IsNewSeat, IsSeatOf}
use Rattle.run_opening.specs.declared.reports.reports.SessionReport.{SessionReport}
use Rattle.afl_session.specs.Marked.{IsMarked}
use Rattle.afl_session.specs.Session.{Serves}
use Rattle.afl_session.specs.Style.{Style}
use Rattle.session_threads.specs.Inner.Each.{ChangesAll}
use Rattle.session_threads.specs.declared.desk.Desk.{Desk}
use Rattle.session_threads.specs.declared.desk.Desk.TheVariants.{Waiting, Working, Done}
use Rattle.run_opening.specs.declared.reports.reports.Streams.{Streams}

module _ {P W M : Type 0} where
  -- a desk with this seat and these streams, whose session waits
  abbrev pub IsSeated : Option P → Option W → Desk P W M → Type 0
  IsSeated place given (Waiting seat own) = (place ≡ Some seat) × (given ≡ Some own)
  IsSeated place given Working = ⊥
  IsSeated place given (Done seat report) = ⊥

  -- each with the seat and the streams of its place
  abbrev pub AreSeated : List P → List W → List (Desk P W M) → Type 0
  AreSeated seats all desks = (k : ℕ) (desk : Desk P W M) → k < length desks → IsSeated (slice_get seats k) (slice_get all k) (slice_index_or desks k desk)

  -- a session has ended
  abbrev pub HasEnded : Desk P W M → Type 0
  HasEnded (Waiting seat own) = ⊥
  HasEnded Working = ⊥
  HasEnded (Done seat report) = Unit {0}

  -- these seats and reports are those of the desks, place by place
  pub record AreEmptied (desks : List (Desk P W M)) (seats : List P) (reports : List M) : Type 0 where
    pub of_seats : (k : ℕ) (seat : P) → k < length seats → (report : M) × (slice_get desks k ≡ Some (Done (slice_index_or seats k seat) report))
    pub of_reports : (k : ℕ) (report : M) → k < length reports → (seat : P) × (slice_get desks k ≡ Some (Done seat (slice_index_or reports k report)))

-- the desk of a session
abbrev pub SessionDesk : Type 0 → Type 0 → Type 0 → Type 0
SessionDesk D S K = Desk (Seat D) (Streams S K) (SessionReport S K)

module _ {D : Type 0} (shared : Shared D) where
  -- a seat that has done nothing but reap
  pub record IsReaper (session : ℕ) (seat : Seat D) : Type 0 where
    pub of_store : IsSeatOf shared seat
    pub idle : IsIdle seat
    pub session_is : session_of seat ≡ session
    pub none_own : none_of owner_of session (seen seat) ≡ true

module _ {D S K : Type 0} (shared : Shared D) where
  -- a session waits for its thread: it has done nothing yet, and its script is cut from its start
  abbrev pub IsWaiting : SessionDesk D S K → Type 0
  IsWaiting (Waiting seat own) = IsNewSeat shared (session_of seat) seat × StandsAfter [] own.splitter
  IsWaiting Working = ⊥
  IsWaiting (Done seat report) = ⊥

  -- what threads of so many workers may do: each of these sessions waits
  pub record CanWork (workers : ℕ) (desks : List (SessionDesk D S K)) : Type 0 where
    pub wait : All (λ desk. IsWaiting desk) desks
    pub some : 1 ≤ workers
    pub few : workers ≤ 64

  -- a thread of so many workers may do the work of this session
  pub record CanBegin (workers : ℕ) (desk : SessionDesk D S K) : Type 0 where
    pub waits : IsWaiting desk
    pub some : 1 ≤ workers
    pub few : workers ≤ 64

  -- the session of this number waits, with these streams
  abbrev pub IsReady : ℕ → Option (Streams S K) → SessionDesk D S K → Type 0
  IsReady session given (Waiting seat own) = (given ≡ Some own) × IsNewSeat shared session seat
  IsReady session given Working = ⊥
  IsReady session given (Done seat report) = ⊥

  -- the desks of all sessions, in order
  abbrev pub AreReady : List (Streams S K) → List (SessionDesk D S K) → Type 0
  AreReady all desks = (k : ℕ) (desk : SessionDesk D S K) → k < length desks → IsReady k (slice_get all k) (slice_index_or desks k desk)

module _ {D S K : Type 0} (style : Style) (moment : D → Moment) (source_of : S → SourceState) (sink_of : K → SinkState) (shared : Shared D) where
  -- a session has served its streams
  pub record HasServed (session : ℕ) (streams : Streams S K) (seat : Seat D) (report : SessionReport S K) : Type 0 where
    pub of_store : IsSeatOf shared seat
    pub idle : IsIdle seat
    pub session_is : session_of seat ≡ session
    pub serves : Serves (IsMarked style moment (start moment shared) session) [] 0 (seen seat) (source_of streams.source) (source_of report.source)
        (sink_of streams.sink) (sink_of report.sink) report.marks report.end

  -- what the work of a session makes of its desk
  abbrev pub HasWorked : SessionDesk D S K → SessionDesk D S K → Type 0
  HasWorked (Waiting seat own) (Done after report) = HasServed (session_of seat) own after report
  HasWorked _ _ = ⊥

  -- the session of this number has served these streams
  abbrev pub IsDone : ℕ → Option (Streams S K) → SessionDesk D S K → Type 0
  IsDone session given (Waiting seat own) = ⊥
  IsDone session given Working = ⊥
  IsDone session given (Done seat report) = (own : Streams S K) × (given ≡ Some own) × HasServed session own seat report

  abbrev pub AllWorked : List (SessionDesk D S K) → List (SessionDesk D S K) → Type 0
  AllWorked old new = ChangesAll HasWorked old new

  abbrev pub AreDone : List (Streams S K) → List (SessionDesk D S K) → Type 0
  AreDone all desks = (k : ℕ) (desk : SessionDesk D S K) → k < length desks → IsDone k (slice_get all k) (slice_index_or desks k desk)
