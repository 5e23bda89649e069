-- A store that is shared, and its seats, as contracts see them.
use Rattle.std.specs.Prelude.{◌≡◌, ◌<◌, ℕ, not, List, [], length, slice_index_or, All, IsTrue}
use Rattle.std.specs.List.{list_all}
use Rattle.afl_outside.specs.Disk.{Moment}
use Rattle.turn_lock.specs.Owners.{ExtendsByOthers}
use Rattle.turn_lock.specs.Inner.Lent.{value_of}
use Rattle.turn_lock.specs.Seats.{claim_of, first_value, seat_count, seat_number, seen_by, IsSeatOf as IsLockSeatOf, IsIdle as HasNoTurn, HasTurn as HasLockTurn}
use Rattle.turn_lock.specs.declared.turns.lock.TurnLock.{TurnLock}
use Rattle.turn_lock.specs.declared.turns.seat.Turn.{Turn}
use Rattle.turn_lock.specs.declared.turns.view.Claim.{Claim}
use Rattle.event_core.specs.Allowed.{is_pinned}
use Rattle.store_ledger.specs.declared.pinned.Pinned.{Pinned}
use Rattle.store_ledger.specs.Ledger.{LedgerState, history, IsOpenPin}
use Rattle.array_store.specs.Event.{Event}
use Rattle.array_store.specs.StoreParts.{StoreParts}
use Rattle.array_store.specs.At.{standing}
use Rattle.array_store.specs.Events.{owner_of}
use Rattle.array_store.specs.Standings.{Standing}
use Rattle.array_store.specs.declared.store.start.Start.{Start}
use Rattle.array_store.specs.Starts.{start_of}
use Rattle.snapshot_manager.specs.declared.shared.Shared.{Shared}
use Rattle.snapshot_manager.specs.declared.seat.Seat.{Seat}
use Rattle.array_store.specs.Told.{entries_in, is_sealed, ledger_of, told}
use Rattle.array_store.specs.Turns.{found_before}

module _ {D : Type 0} where
  -- ---- a shared store

  -- the store that it was made with
  abbrev pub first_store : Shared D → StoreParts D
  first_store shared = first_value shared.lock

  -- how that store began, which no turn changes
  abbrev pub start : (D → Moment) → Shared D → Start D
  start moment shared = start_of (standing moment (first_store shared))

  -- how many seats it has: one for each session, and the reaper's
  abbrev pub seats_in_all : Shared D → ℕ
  seats_in_all shared = seat_count shared.lock

  -- ---- a seat

  -- the session whose seat it is
  abbrev pub session_of : Seat D → ℕ
  session_of seat = seat_number seat.turn_seat

  -- the events that it has seen
  abbrev pub seen : Seat D → List Event
  seen seat = seen_by seat.turn_seat

  -- how many of them it tells are entries
  abbrev pub entry_count : Seat D → ℕ
  entry_count seat = seat.entries

  -- the place of its session's last reply
  abbrev pub last_place : Seat D → ℕ
  last_place seat = seat.last

  -- how many chunks were read with it
  abbrev pub read_count : Seat D → ℕ
  read_count seat = seat.reads

  -- the seat with another last place, and all else as it is
  abbrev pub with_last : ℕ → Seat D → Seat D
  with_last place seat = record seat { last = place }

  -- it is one of this store's, it tells how many entries it has seen, and each commit that it has seen was acknowledged
  pub record IsSeatOf (shared : Shared D) (seat : Seat D) : Type 0 where
    pub here : IsLockSeatOf shared.lock seat.turn_seat
    pub counts : entry_count seat ≡ length (entries_in (seen seat))
    pub sealed : IsTrue (list_all is_sealed (seen seat))

  -- it has no turn
  abbrev pub IsIdle : Seat D → Type 0
  IsIdle seat = HasNoTurn seat.turn_seat

  -- the turn is this seat's
  abbrev pub HasTurn : Seat D → Turn (StoreParts D) → Type 0
  HasTurn seat turn = HasLockTurn seat.turn_seat turn

  -- the store of a turn
  abbrev pub store_of : Turn (StoreParts D) → StoreParts D
  store_of turn = value_of turn

  -- session and last place are the same
  pub record IsSameSeat (old new : Seat D) : Type 0 where
    pub session : session_of new ≡ session_of old
    pub last : last_place new ≡ last_place old

  -- the seat of a session that has seen nothing yet
  pub record IsNewSeat (shared : Shared D) (session : ℕ) (seat : Seat D) : Type 0 where
    pub of_store : IsSeatOf shared seat
    pub idle : IsIdle seat
    pub session_is : session_of seat ≡ session
    pub seen_none : seen seat ≡ []
    pub last_none : last_place seat ≡ 0
    pub read_none : read_count seat ≡ 0

  -- the one at each place is of that session
  abbrev pub AreNewSeats : Shared D → List (Seat D) → Type 0
  AreNewSeats shared seats = (k : ℕ) (other : Seat D) → k < length seats → IsNewSeat shared k (slice_index_or seats k other)

  -- they are seats of this store, and none has a turn
  abbrev pub AreIdleSeats : Shared D → List (Seat D) → Type 0
  AreIdleSeats shared seats = All (λ seat. IsSeatOf shared seat × IsIdle seat) seats

  -- its session, with what it has seen
  abbrev pub claim_in : Seat D → Claim Event
  claim_in seat = claim_of seat.turn_seat

  -- it is a seat of this lock, and has no turn
  abbrev pub IsIdleAt : {O : Type 0} → TurnLock (StoreParts D) O Event → Seat D → Type 0
  IsIdleAt lock seat = IsLockSeatOf lock seat.turn_seat × IsIdle seat

  -- the events extend all that each seat has seen, and none past that is of its session
  abbrev pub ExtendEach : List (Seat D) → List Event → Type 0
  ExtendEach seats events = All (λ seat. ExtendsByOthers owner_of (session_of seat) (seen seat) events) seats

  -- ---- what a seat has seen of its store

  abbrev pub ledger_seen : (D → Moment) → Shared D → Seat D → LedgerState
  ledger_seen moment shared seat = ledger_of (start moment shared) (seen seat)

  -- the ledger that its last turn had found, which then added these
  abbrev pub ledger_found : (D → Moment) → Shared D → List Event → Seat D → LedgerState
  ledger_found moment shared own seat = ledger_of (start moment shared) (found_before own (seen seat))

  abbrev pub store_seen : (D → Moment) → Shared D → Seat D → Standing D
  store_seen moment shared seat = told (start moment shared) (seen seat)

  -- the session holds this pin, and it is open as far as its seat has seen
  pub record HoldsPin (moment : D → Moment) (shared : Shared D) (seat : Seat D) (pinned : Pinned) : Type 0 where
    pub own : pinned.session ≡ session_of seat
    pub open_pin : IsOpenPin (ledger_seen moment shared seat) pinned

  -- it holds none, as far as its seat has seen
  abbrev pub HoldsNone : (D → Moment) → Shared D → Seat D → Type 0
  HoldsNone moment shared seat = IsTrue (not (is_pinned (session_of seat) (history (ledger_seen moment shared seat))))
