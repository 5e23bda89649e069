-- The core of a history, entry by entry.
use Rattle.std.specs.Prelude.{◌≡◌, ℕ, Bool, true, false, [], ◌∷◌, IsTrue}
use Rattle.event_core.specs.declared.entry.Entry.{Entry}
use Rattle.event_core.specs.declared.entry.Entry.TheVariants.{Pin, Unpin, Commit, Reap}
use Rattle.event_core.specs.declared.state.Core.{Core}
use Rattle.event_core.specs.History.{History}
use Rattle.event_core.specs.Pages.{is_live, is_awaiting}
use Rattle.event_core.specs.Allowed.{IsBase, allows}
use Rattle.event_core.specs.Ready.{ReadyFor, IsReadyOver}
use Rattle.event_core.specs.Replay.{core_at, core_after, core_allows, is_core_live, is_core_awaiting}

-- one more entry: the core after it is what the entry makes of the core before it
abbrev pub CoreFollowsEntries : Type 0
CoreFollowsEntries = (base : Core) (h : History) (entry : Entry) → core_at base (entry ∷ h) ≡ core_after (core_at base h) entry

-- the core alone tells which entries are allowed after the history
abbrev pub CoreTellsAllowed : Type 0
CoreTellsAllowed = (base : Core) (h : History) (entry : Entry) → core_allows (core_at base h) entry ≡ allows base h entry

-- a base is the core of no entries
abbrev pub BaseIsFirstCore : Type 0
BaseIsFirstCore = (base : Core) → IsBase base → base ≡ core_at base []

-- the core tells which pages are live, and which await a reap
abbrev pub CoreTellsPages : Type 0
CoreTellsPages = (base : Core) (h : History) (page : ℕ) →
    (is_core_live (core_at base h) page ≡ is_live base h page) × (is_core_awaiting (core_at base h) page ≡ is_awaiting base h page)

-- whether an entry is none of a commit
abbrev pub is_no_commit : Entry → Bool
is_no_commit (Pin session) = true
is_no_commit (Unpin session) = true
is_no_commit (Commit session change used) = false
is_no_commit Reap = true

-- what was made ready over a core is ready over the core after a pin, an unpin or a reap
abbrev pub ReadyOutlasts : Type 0
ReadyOutlasts = (ready : ReadyFor) (core : Core) (entry : Entry) → IsTrue (is_no_commit entry)
    → IsReadyOver ready core → IsReadyOver ready (core_after core entry)
