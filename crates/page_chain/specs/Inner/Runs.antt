-- What several calls of a disk, one after the other, do to it.
use Rattle.std.specs.Prelude.{◌≡◌, ℕ, List, IsTrue, Some, IfSome}
use Rattle.afl_outside.specs.Disk.{DiskState, DiskGoesOn, Follows, LeavesNoMore, LeavesOnly, Moment}
use Rattle.page_chain.specs.Places.{KeepsPages}

-- The disk was only read: a read gives what it gave, and a crash at any moment since then leaves what it might have left at the start.
pub record OnlyReads (old new : Moment) : Type 0 where
  pub seen : new.state.seen ≡ old.state.seen
  pub same : DiskGoesOn old.state new.state
  pub crash : LeavesNoMore old new
  pub time : LeavesOnly old.state.moment new.state.moment old.left_since new.left_since old.may_leave

-- these pages, over some image that a crash might have left at the start
abbrev pub Over : List ℕ → (List ℕ → Type 0) → List ℕ → Type 0
Over pages before c = (d : List ℕ) × before d × KeepsPages pages d c

-- Only these pages of the disk were written: a crash at any moment since then leaves what it might have left at the start, but for
-- these pages.
pub record OnlyWrites (pages : List ℕ) (old new : Moment) : Type 0 where
  pub same : DiskGoesOn old.state new.state
  pub crash : Follows (KeepsPages pages) old.may_leave new.may_leave
  pub time : LeavesOnly old.state.moment new.state.moment old.left_since new.left_since (Over pages old.may_leave)

-- An honest disk that tells its bytes told some and tells others now, of which this holds.
abbrev pub Sees : DiskState → DiskState → (List ℕ → List ℕ → Type 0) → Type 0
Sees old new P = IsTrue old.honest → IfSome old.seen (λ seen. (now : List ℕ) × (new.seen ≡ Some now) × P seen now)
