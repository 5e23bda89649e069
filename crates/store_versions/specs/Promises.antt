-- What holds of the pages of each allowed history.
use Rattle.std.specs.Prelude.{◌≡◌, ℕ, ◌+◌, ◌-◌, ◌<◌, ◌≤◌, length, ◌↔◌, Bool, true, false, not, nat_eq, [], ◌∷◌, ◌++◌, IsTrue}
use Rattle.std.specs.List.{filter, list_all, list_any}
use Rattle.plan_changes.specs.declared.change.Change.{Change}
use Rattle.event_core.specs.PageSets.{holds, pages_below}
use Rattle.event_core.specs.declared.entry.Used.{Used}
use Rattle.event_core.specs.declared.entry.Entry.{Entry}
use Rattle.event_core.specs.declared.entry.Entry.TheVariants.{Pin, Unpin, Commit, Reap}
use Rattle.event_core.specs.declared.state.Core.{Core}
use Rattle.event_core.specs.History.{History, pages_at}
use Rattle.event_core.specs.Pages.{has_page, is_live, fresh_at, free_at, is_awaiting}
use Rattle.event_core.specs.Allowed.{IsBase, is_allowed}
use Rattle.event_core.specs.Apart.{AllShareOwn, AreApart}

-- no free page is live
abbrev pub NoFreePageIsLive : Type 0
NoFreePageIsLive = (base : Core) (h : History) → IsBase base → IsTrue (is_allowed base h)
    → (page : ℕ) → IsTrue (holds (free_at base h) page) → is_live base h page ≡ false

-- no fresh page of an allowed commit was live before it
abbrev pub NoFreshPageWasLive : Type 0
NoFreshPageWasLive = (base : Core) (h : History) (session : ℕ) (change : Change) (used : Used)
    → IsBase base → IsTrue (is_allowed base (Commit session change used ∷ h)) →
    (page : ℕ) → IsTrue (holds (fresh_at base h change used) page) → is_live base h page ≡ false

-- whether an entry is another one than the unpin of a session
abbrev pub keeps_pin : ℕ → Entry → Bool
keeps_pin session (Unpin t) = not (nat_eq t session)
keeps_pin session (Pin t) = true
keeps_pin session (Commit t change used) = true
keeps_pin session Reap = true

-- what could be named when a pin began stays live until its unpin, whatever comes after it
abbrev pub PinnedPagesStayLive : Type 0
PinnedPagesStayLive = (base : Core) (before later : History) (session page : ℕ) → IsTrue (list_all (keeps_pin session) later) →
    IsTrue (has_page (pages_at base before) page) → IsTrue (is_live base (later ++ Pin session ∷ before) page)

-- a reap frees exactly the pages from 1 below the limit that are not live
abbrev pub ReapFreesTheRest : Type 0
ReapFreesTheRest = (base : Core) (h : History) (page : ℕ) →
    IsTrue (holds (free_at base (Reap ∷ h)) page) ↔ ((1 ≤ page) × (page < base.limit) × (is_live base h page ≡ false))

-- each free page is one from 1 below the limit
abbrev pub FreePagesAreWithin : Type 0
FreePagesAreWithin = (base : Core) (h : History) → IsBase base → (page : ℕ) → IsTrue (holds (free_at base h) page) → (1 ≤ page) × (page < base.limit)

-- a reap takes no page from the free ones
abbrev pub ReapKeepsFreePages : Type 0
ReapKeepsFreePages = (base : Core) (h : History) → IsBase base → IsTrue (is_allowed base h) → (page : ℕ)
    → IsTrue (holds (free_at base h) page) → IsTrue (holds (free_at base (Reap ∷ h)) page)

-- each page from 1 below the limit is free, live or awaiting a reap, and is so once
abbrev pub PagesAreConserved : Type 0
PagesAreConserved = (base : Core) (h : History) → IsBase base → IsTrue (is_allowed base h) →
    length (free_at base h) + (length (filter (is_live base h) (pages_below base.limit)) + length
    (filter (is_awaiting base h) (pages_below base.limit))) ≡ base.limit - 1

-- where no page awaits a reap, a reap leaves the free pages as they were
abbrev pub ReapsWithoutGainChangeNothing : Type 0
ReapsWithoutGainChangeNothing = (base : Core) (h : History) → IsBase base → IsTrue (is_allowed base h) →
    list_any (is_awaiting base h) (pages_below base.limit) ≡ false → free_at base (Reap ∷ h) ≡ free_at base h

-- after each allowed history whose commits share no pages but their own, the catalogue is apart, if it is so at the base
abbrev pub CataloguesStayApart : Type 0
CataloguesStayApart = (base : Core) (h : History) → IsBase base → AreApart base [] → AllShareOwn base h → IsTrue (is_allowed base h) → AreApart base h
