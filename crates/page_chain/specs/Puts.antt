-- A write that is synced, and a sync alone.
use Rattle.std.specs.Prelude.{◌≡◌, ℕ, List, length, IsTrue, Some, IfSome, Result, Ok, Err}
use Rattle.afl_outside.specs.Disk.{DiskState, DiskGoesOn, Follows, LeavesNoMore, LeavesOnly, Moment, Only, Torn, written}
use Rattle.afl_outside.specs.declared.source.Failed.{Failed}

-- these bytes torn, over some image that a crash might have left at the start
abbrev pub Over : ℕ → ℕ → (List ℕ → Type 0) → List ℕ → Type 0
Over at count before c = (d : List ℕ) × before d × Torn at count d c

-- an honest disk that tells its bytes gives what it gave, but for these bytes
abbrev pub SeesTorn : ℕ → ℕ → DiskState → DiskState → Type 0
SeesTorn at count old new = IsTrue old.honest → IfSome old.seen (λ seen. (torn : List ℕ) × (new.seen ≡ Some torn) × Torn at count seen torn)

-- Only these bytes of the disk were written: a read gives what it gave, and a crash at any moment since then leaves what it might have
-- left at the start, but for these bytes.
pub record OnlyPuts (at count : ℕ) (old new : Moment) : Type 0 where
  pub same : DiskGoesOn old.state new.state
  pub seen : SeesTorn at count old.state new.state
  pub crash : Follows (Torn at count) old.may_leave new.may_leave
  pub time : LeavesOnly old.state.moment new.state.moment old.left_since new.left_since (Over at count old.may_leave)

-- Where the call was done, an honest disk holds what was written, and a crash leaves nothing else. Else the range may be torn.
abbrev pub Put : ℕ → List ℕ → Moment → Moment → Result (Unit {0}) Failed → Type 0
Put at bytes old new (Ok u) = IsTrue old.state.honest
    → IfSome old.state.seen (λ seen. (new.state.seen ≡ Some (written at bytes seen)) × Only (written at bytes seen) new.may_leave)
Put at bytes old new (Err e) = SeesTorn at (length bytes) old.state new.state

-- Nothing was written.
pub record OnlySyncs (old new : Moment) : Type 0 where
  pub same : DiskGoesOn old.state new.state
  pub seen : new.state.seen ≡ old.state.seen
  pub crash : LeavesNoMore old new
  pub time : LeavesOnly old.state.moment new.state.moment old.left_since new.left_since old.may_leave
