-- Commits that share no pages but their own, and what stays apart by that.
use Rattle.std.specs.Prelude.{◌≡◌, ℕ, Bool, true, false, ◌||◌, [], ◌∷◌, IsTrue}
use Rattle.std.specs.List.{list_any, list_all}
use Rattle.plan_changes.specs.declared.change.Change.{Change}
use Rattle.plan_changes.specs.declared.change.Change.TheVariants.{Create, Store, Insert, Remove, RemoveVersions}
use Rattle.plan_changes.specs.Changes.{name_of}
use Rattle.version_reaper.specs.PageSets.{holds}
use Rattle.event_core.specs.declared.entry.Used.{Used}
use Rattle.event_core.specs.declared.entry.Entry.TheVariants.{Pin, Unpin, Commit, Reap}
use Rattle.event_core.specs.declared.state.Core.{Core}
use Rattle.event_core.specs.History.{History, names_at, pages_at, catalogue_at, open_pins}
use Rattle.event_core.specs.Pages.{has_page, pin_names, is_newest, fresh_at}

-- whether a change makes a version
abbrev pub makes_version : Change → Bool
makes_version (Create name schema) = false
makes_version (Store name schema plan) = true
makes_version (Insert name schema plan) = true
makes_version (Remove name) = false
makes_version (RemoveVersions name below) = false

-- the pages of a commit are its own, or those that it may share: the version's with the array's newest version, the catalogue's
-- with the catalogue before. A change that makes no version uses no page for one
pub record SharesOwn (base : Core) (h : History) (change : Change) (used : Used) : Type 0 where
  pub version : IsTrue (list_all (λ page. holds (fresh_at base h change used) page
      || is_newest (names_at base h) (pages_at base h) (name_of change) page) used.version)
  pub catalogue : IsTrue (list_all (λ page. holds (fresh_at base h change used) page || holds (catalogue_at base h) page) used.catalogue)
  pub none : makes_version change ≡ false → used.version ≡ []

-- each commit of a history does so
abbrev pub AllShareOwn : Core → History → Type 0
AllShareOwn base [] = Unit {0}
AllShareOwn base (Pin session ∷ before) = AllShareOwn base before
AllShareOwn base (Unpin session ∷ before) = AllShareOwn base before
AllShareOwn base (Commit session change used ∷ before) = AllShareOwn base before × SharesOwn base before change used
AllShareOwn base (Reap ∷ before) = AllShareOwn base before

-- no page of the catalogue is one of a version that can be named now or could be when a pin began that is still open, and
-- page 0 is neither of the catalogue nor of a version that can be named now
pub record AreApart (base : Core) (h : History) : Type 0 where
  pub now : (page : ℕ) → IsTrue (holds (catalogue_at base h) page) → has_page (pages_at base h) page ≡ false
  pub pinned : (page : ℕ) → IsTrue (holds (catalogue_at base h) page) → list_any (pin_names base page) (open_pins h) ≡ false
  pub first : (holds (catalogue_at base h) 0 ≡ false) × (has_page (pages_at base h) 0 ≡ false)
