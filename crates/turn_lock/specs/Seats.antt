-- What a clause says of a lock, its seats and a turn.
use Rattle.std.specs.Prelude.{◌≡◌, ◌<◌, ℕ, List, [], ◌∷◌, length, Option, Some, None, slice_index_or, All}
use Rattle.turn_lock.specs.declared.turns.lock.TurnLock.{TurnLock}
use Rattle.turn_lock.specs.declared.turns.seat.LockSeat.{LockSeat}
use Rattle.turn_lock.specs.declared.turns.seat.Turn.{Turn}
use Rattle.turn_lock.specs.declared.turns.view.Claim.{Claim}
use Rattle.turn_lock.specs.declared.turns.view.Stage.TheVariants.{Idle, Holding}
use Rattle.turn_lock.specs.Inner.Lent.{count_before}
use Rattle.turn_lock.specs.Owners.{ExtendsByOthers}
use Rattle.turn_lock.specs.Inner.Views.{claim, first_number, first_seen}

module _ {V E : Type 0} where
  abbrev pub seat_number : LockSeat V E → ℕ
  seat_number s = first_number s.seat.me.0.claims

  -- the entries that the seat has seen
  abbrev pub seen_by : LockSeat V E → List E
  seen_by s = first_seen s.seat.me.0.claims

  -- the seat's number, with what it has seen
  abbrev pub claim_of : LockSeat V E → Claim E
  claim_of s = claim (seat_number s) (seen_by s)

  -- the seat has no turn
  abbrev pub IsIdle : LockSeat V E → Type 0
  IsIdle s = (s.seat.me.0.stage ≡ Idle) × (s.seat.me.1 ≡ [])

  -- the seat has the slot, and the value is in hand
  abbrev pub HasSlot : LockSeat V E → Type 0
  HasSlot s = (s.seat.me.0.stage ≡ Holding) × (s.seat.me.1 ≡ (0, None) ∷ [])

  -- the turn is this seat's
  abbrev pub HasTurn : LockSeat V E → Turn V → Type 0
  HasTurn s t = HasSlot s × (count_before t ≡ length (seen_by s))

  -- the list extends all that each of the seats has seen, and none of the entries past that is the seat's own
  abbrev pub ExtendsEach : (E → Option ℕ) → List (LockSeat V E) → List E → Type 0
  ExtendsEach owner ss xs = All (λ s. ExtendsByOthers owner (seat_number s) (seen_by s) xs) ss

module _ {V O E : Type 0} where
  -- the value that the lock was made with
  abbrev pub first_value : TurnLock V O E → V
  first_value l = l.table.shared.key.first.value

  -- how many seats the lock was made with
  abbrev pub seat_count : TurnLock V O E → ℕ
  seat_count l = l.table.shared.key.seats

  abbrev pub IsSeatOf : TurnLock V O E → LockSeat V E → Type 0
  IsSeatOf l s = (s.seat.table_id ≡ l.table.shared.table_id) × (s.seat.me.0.first ≡ Some (first_value l))

  -- a seat of a new lock, which has the number k and has seen nothing
  abbrev pub IsNewSeat : TurnLock V O E → ℕ → LockSeat V E → Type 0
  IsNewSeat l k s = IsSeatOf l s × IsIdle s × (seat_number s ≡ k) × (seen_by s ≡ [])

  -- the seats of a new lock: the one at each place has that number
  abbrev pub AreNewSeats : TurnLock V O E → List (LockSeat V E) → Type 0
  AreNewSeats l ss = (k : ℕ) (d : LockSeat V E) → k < length ss → IsNewSeat l k (slice_index_or ss k d)

  -- they are seats of this lock, and none has a turn
  abbrev pub AreIdleSeats : TurnLock V O E → List (LockSeat V E) → Type 0
  AreIdleSeats l ss = All (λ s. IsSeatOf l s × IsIdle s) ss
