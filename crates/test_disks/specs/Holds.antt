-- What a session has of a store, and what a step leaves to sessions.
use Rattle.std.specs.Prelude.{◌≡◌, ℕ, false, nat_eq}
use Rattle.plan_changes.specs.Stored.{AreStored}
use Rattle.event_core.specs.Allowed.{is_pinned}
use Rattle.store_ledger.specs.declared.pinned.Pinned.{Pinned}
use Rattle.store_ledger.specs.Ledger.{LedgerState, IsOpenPin, history, is_noted, is_tried}
use Rattle.test_quiet.specs.declared.holds.Hold.{Hold}
use Rattle.test_quiet.specs.declared.holds.Hold.TheVariants as hold

-- the open pin of a session, whose names are stored ones
pub record IsPinOf (ledger : LedgerState) (session : ℕ) (pinned : Pinned) : Type 0 where
  pub its : pinned.session ≡ session
  pub begun : IsOpenPin ledger pinned
  pub stored : AreStored pinned.names

-- one under which no commit was tried
pub record IsUntried (ledger : LedgerState) (session : ℕ) (pinned : Pinned) : Type 0 where
  pub pin : IsPinOf ledger session pinned
  pub first : is_noted is_tried ledger session ≡ false

-- what a session has
abbrev pub IsHold : LedgerState → ℕ → Hold → Type 0
IsHold ledger session hold.Free = is_pinned session (history ledger) ≡ false
IsHold ledger session (hold.Pinned pinned) = IsUntried ledger session pinned
IsHold ledger session (hold.Tried pinned) = IsPinOf ledger session pinned

-- a step leaves what all sessions have, or what all have but one
abbrev pub LeavesAll : LedgerState → LedgerState → Type 0
LeavesAll old new = (session : ℕ) (held : Hold) → IsHold old session held → IsHold new session held

abbrev pub LeavesOthers : ℕ → LedgerState → LedgerState → Type 0
LeavesOthers own old new = (session : ℕ) (held : Hold) → nat_eq session own ≡ false → IsHold old session held → IsHold new session held

-- no session has a pin
abbrev pub HasNoPins : LedgerState → Type 0
HasNoPins ledger = (session : ℕ) → is_pinned session (history ledger) ≡ false

-- a step of a session leaves it its pin, under which it may have tried a commit
abbrev pub LeavesTried : ℕ → LedgerState → LedgerState → Type 0
LeavesTried session old new = (pinned : Pinned) → IsPinOf old session pinned → IsPinOf new session pinned
