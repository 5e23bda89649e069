-- Live and free pages.
use Rattle.std.specs.Prelude.{ℕ, Bool, not, ◌&&◌, ◌||◌, nat_eq, List, [], ◌∷◌, ◌++◌}
use Rattle.std.specs.List.{filter, list_any}
use Rattle.plan_changes.specs.declared.change.Change.{Change}
use Rattle.plan_changes.specs.Names.{Names}
use Rattle.plan_changes.specs.Changes.{newest_of, name_of}
use Rattle.version_reaper.specs.PageSets.{holds, pages_below}
use Rattle.event_core.specs.declared.entry.Used.{Used}
use Rattle.event_core.specs.declared.entry.Entry.TheVariants.{Pin, Unpin, Commit, Reap}
use Rattle.event_core.specs.declared.state.VersionPages.{VersionPages}
use Rattle.event_core.specs.declared.state.Core.{Core}
use Rattle.event_core.specs.History.{History, OpenPin, names_at, pages_at, catalogue_at, open_pins, is_pages_of}

-- whether a page is among those of versions
abbrev pub has_page : List VersionPages → ℕ → Bool
has_page versions page = list_any (λ v. holds v.pages page) versions

-- whether a page is one of a version that a pin could name when it began
abbrev pub pin_names : Core → ℕ → OpenPin → Bool
pin_names base page pin = has_page (pages_at base pin.before) page

-- whether a page is live after a history: page 0, the last catalogue, the versions that can be named now or could be when
-- a pin began that is still open
abbrev pub is_live : Core → History → ℕ → Bool
is_live base h page = nat_eq page 0 || (holds (catalogue_at base h) page || (has_page (pages_at base h) page || list_any (pin_names base page) (open_pins h)))

-- whether a page is one of the array's newest version
abbrev pub is_newest : Names → List VersionPages → List ℕ → ℕ → Bool
is_newest names versions name page = list_any (λ v. is_pages_of name v && nat_eq v.version (newest_of names.arrays name) && holds v.pages page) versions

-- the fresh pages of a commit: those that are neither of the array's newest version nor of the catalogue before
abbrev pub fresh_of : Names → List VersionPages → List ℕ → Change → Used → List ℕ
fresh_of names versions catalogue change used = filter
    (λ page. not (is_newest names versions (name_of change) page || holds catalogue page)) (used.version ++ used.catalogue)

abbrev pub fresh_at : Core → History → Change → Used → List ℕ
fresh_at base h change used = fresh_of (names_at base h) (pages_at base h) (catalogue_at base h) change used

-- the free pages after a history: a commit takes its fresh pages out, a reap gives all that are not live
abbrev pub free_at : Core → History → List ℕ
free_at base [] = base.free
free_at base (Commit session change used ∷ before) = filter (λ page. not (holds (fresh_at base before change used) page)) (free_at base before)
free_at base (Reap ∷ before) = filter (λ page. not (is_live base before page)) (pages_below base.limit)
free_at base (Pin session ∷ before) = free_at base before
free_at base (Unpin session ∷ before) = free_at base before

-- whether a page is neither free nor live: it waits for a reap
abbrev pub is_awaiting : Core → History → ℕ → Bool
is_awaiting base h page = not (holds (free_at base h) page) && not (is_live base h page)
