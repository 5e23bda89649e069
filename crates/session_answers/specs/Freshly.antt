-- A change that was fresh in a turn, since its session's pin.
use Rattle.std.specs.Prelude.{◌+◌, List, length, IsTrue}
use Rattle.plan_changes.specs.declared.change.Change.{Change}
use Rattle.store_ledger.specs.declared.pinned.Pinned.{Pinned}
use Rattle.store_ledger.specs.Ledger.{IsOpenPin}
use Rattle.store_state.specs.declared.state.event.Event.{Event}
use Rattle.snapshot_manager.specs.Start.{Start}
use Rattle.snapshot_manager.specs.Told.{entries_in, ledger_of}
use Rattle.snapshot_manager.specs.Tries.{is_fresh_since}
use Rattle.session_answers.specs.Fresh.{AreLeftSince}

-- A FRESH CHANGE IS LEFT by all that came since right behind the pin
abbrev pub FreshChangesAreLeftSince : Type 0 → Type 0
FreshChangesAreLeftSince D = (start : Start D) (events : List Event) (pinned : Pinned) (change : Change) → IsOpenPin (ledger_of start events) pinned
    → IsTrue (is_fresh_since pinned change (ledger_of start events))
    → AreLeftSince start events (pinned.place + 1) (length (entries_in events)) change
