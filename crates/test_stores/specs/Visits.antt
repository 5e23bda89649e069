-- What sessions have of a shared store.
use Rattle.std.specs.Prelude.{◌≡◌, false}
use Rattle.afl_outside.specs.Disk.{Moment}
use Rattle.plan_changes.specs.Stored.{AreStored}
use Rattle.store_ledger.specs.declared.pinned.Pinned.{Pinned}
use Rattle.store_ledger.specs.Ledger.{is_noted, is_tried}
use Rattle.snapshot_manager.specs.declared.seat.Seat.{Seat}
use Rattle.snapshot_manager.specs.declared.shared.Shared.{Shared}
use Rattle.snapshot_manager.specs.Seats.{HoldsNone, HoldsPin, IsIdle, IsSeatOf, ledger_seen, start}
use Rattle.test_quiet.specs.declared.holds.Hold.{Hold}
use Rattle.test_quiet.specs.declared.holds.Hold.TheVariants as hold

-- the disk that was opened isn't honest: so nothing is known of what it holds
abbrev pub IsUntold : {D : Type 0} → (D → Moment) → Shared D → Type 0
IsUntold moment shared = (moment (start moment shared).opened.disk).state.honest ≡ false

module _ {D : Type 0} (moment : D → Moment) (shared : Shared D) (seat : Seat D) where
  -- the open pin of the seat's session, whose names are stored ones
  pub record IsPinOf (pinned : Pinned) : Type 0 where
    pub holds : HoldsPin moment shared seat pinned
    pub stored : AreStored pinned.names

  -- one under which no commit was tried
  pub record IsUntried (pinned : Pinned) : Type 0 where
    pub pin : IsPinOf pinned
    pub first : is_noted is_tried (ledger_seen moment shared seat) pinned.session ≡ false

  -- what the session has
  abbrev pub IsHeld : Hold → Type 0
  IsHeld hold.Free = HoldsNone moment shared seat
  IsHeld (hold.Pinned pinned) = IsUntried pinned
  IsHeld (hold.Tried pinned) = IsPinOf pinned

  -- a seat without a turn, whose session has no pin
  pub record IsFree : Type 0 where
    pub here : IsSeatOf shared seat
    pub idle : IsIdle seat
    pub none : HoldsNone moment shared seat
