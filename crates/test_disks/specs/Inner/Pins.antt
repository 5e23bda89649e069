-- The pin of what a session has.
use Rattle.std.specs.Prelude.{Option, None, Some}
use Rattle.store_ledger.specs.declared.pinned.Pinned.{Pinned}
use Rattle.test_quiet.specs.declared.holds.Hold.{Hold}
use Rattle.test_quiet.specs.declared.holds.Hold.TheVariants as hold

-- the pin, if it has one
abbrev pub pin_in : Hold → Option Pinned
pin_in hold.Free = None
pin_in (hold.Pinned pinned) = Some pinned
pin_in (hold.Tried pinned) = Some pinned
