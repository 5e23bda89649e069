-- What a commit may do with free pages that it is given.
use Rattle.std.specs.Prelude.{◌≡◌, ℕ, true, List, [], ◌∷◌, ◌++◌, length, take, Option, IfSome, IsTrue}
use Rattle.std.specs.List.{AllByRecursion}
use Rattle.std.specs.Option.{is_some}
use Rattle.chunk_map.specs.declared.directory.Directory.{Directory}
use Rattle.page_chain.specs.Pages.{AreDistinct}
use Rattle.plan_changes.specs.declared.change.Change.{Change}
use Rattle.plan_changes.specs.Allowed.{names_allow}
use Rattle.plan_changes.specs.Changes.{name_of}
use Rattle.version_catalog.specs.declared.rules.catalog.Catalog.{Catalog}
use Rattle.version_reaper.specs.PageSets.{holds}
use Rattle.event_core.specs.declared.entry.Entry.TheVariants.{Commit}
use Rattle.event_core.specs.declared.entry.Used.{Used}
use Rattle.event_core.specs.declared.state.Core.{Core}
use Rattle.event_core.specs.Allowed.{IsBase, allows, are_different, is_allowed, is_pinned}
use Rattle.event_core.specs.Apart.{makes_version, SharesOwn}
use Rattle.event_core.specs.History.{History, catalogue_at, names_at, pages_at}
use Rattle.event_core.specs.Pages.{free_at, fresh_at, is_newest}
use Rattle.commit_pages.specs.declared.pages.written.Written.{Written}
use Rattle.commit_pages.specs.Commits.{record_needs, base_needs, record_laid, base_laid}
use Rattle.commit_pages.specs.Versions.{IsWritten}

-- what is given to a commit after a history: the newest version's directory, whose payloads lie in that version's pages, and free pages of
-- which none comes twice
pub record AreGiven (base : Core) (h : History) (change : Change) (newest : Directory) (pages : List ℕ) : Type 0 where
  pub begins : IsBase base
  pub allowed : IsTrue (is_allowed base h)
  pub shared : AllByRecursion
      (λ entry. AllByRecursion (λ page. is_newest (names_at base h) (pages_at base h) (name_of change) page ≡ true) entry.pages) newest.entries
  pub free : AllByRecursion (λ page. IsTrue (holds (free_at base h) page)) pages
  pub different : IsTrue (are_different pages)

-- THE COMMIT MAY COME: under a pin, where the names allow the change. It has as many fresh pages as these, and shares none but its own
pub record MayUse (base : Core) (h : History) (change : Change) (used : Used) (pages : List ℕ) : Type 0 where
  pub allowed : (session : ℕ) → IsTrue (is_pinned session h) → IsTrue (names_allow (names_at base h) change)
      → IsTrue (allows base h (Commit session change used))
  pub own : SharesOwn base h change used
  pub many : length (fresh_at base h change used) ≡ length pages

abbrev pub RecordsMayUse : Type 0
RecordsMayUse = (base : Core) (h : History) (catalog : Catalog) (newest : Directory) (change : Change) (written : Option Written) (pages : List ℕ)
    → AreGiven base h change newest pages → IfSome written IsWritten → is_some written ≡ makes_version change
    → length pages ≡ record_needs catalog newest change written
    → MayUse base h change (record_laid catalog (catalogue_at base h) newest change written pages).used pages

abbrev pub BasesMayUse : Type 0
BasesMayUse = (base : Core) (h : History) (catalog : Catalog) (newest : Directory) (change : Change) (written : Option Written) (pages : List ℕ)
    (log : ℕ) → AreGiven base h change newest (pages ++ log ∷ []) → IfSome written IsWritten → is_some written ≡ makes_version change
    → length pages ≡ base_needs catalog newest change written
    → MayUse base h change (base_laid catalog newest change written pages log).used (pages ++ log ∷ [])

-- so many of the first free pages are free, and none of them comes twice
pub record AreFirst (all pages : List ℕ) : Type 0 where
  pub free : AllByRecursion (λ page. IsTrue (holds all page)) pages
  pub different : IsTrue (are_different pages)
  pub distinct : AreDistinct pages

abbrev pub FreePagesDiffer : Type 0
FreePagesDiffer = (base : Core) (h : History) (count : ℕ) → IsBase base → AreFirst (free_at base h) (take count (free_at base h))
