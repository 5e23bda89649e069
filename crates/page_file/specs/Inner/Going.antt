-- How the calls of a commit go on.
use Rattle.std.specs.Prelude.{ℕ, List}
use Rattle.afl_outside.specs.Disk.{DiskGoesOn, Follows, LeavesOnly, Moment}
use Rattle.page_chain.specs.Places.{KeepsPages}
use Rattle.page_chain.specs.Inner.Runs.{Over}

-- Only these pages were written, and each image at each moment since then has P.
pub record Goes (pages : List ℕ) (P : List ℕ → Type 0) (old new : Moment) : Type 0 where
  pub same : DiskGoesOn old.state new.state
  pub crash : Follows (KeepsPages pages) old.may_leave new.may_leave
  pub time : LeavesOnly old.state.moment new.state.moment old.left_since new.left_since (λ c. Over pages old.may_leave c × P c)
