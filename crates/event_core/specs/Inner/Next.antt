-- What a commit does to the versions, told before it.
use Rattle.std.specs.Prelude.{◌≡◌, ◌<◌, ℕ, not, ◌&&◌, nat_lt, List, [], ◌∷◌, ◌++◌, length}
use Rattle.std.specs.List.{filter}
use Rattle.plan_changes.specs.Names.{Names}
use Rattle.plan_changes.specs.declared.change.Change.{Change}
use Rattle.plan_changes.specs.Changes.{names_after}
use Rattle.event_core.specs.declared.entry.Used.{Used}
use Rattle.event_core.specs.declared.next.NextPages.{NextPages}
use Rattle.event_core.specs.declared.next.NextPages.TheVariants.{Stay, Add, WithoutArray, WithoutBelow}
use Rattle.event_core.specs.declared.state.VersionPages.{VersionPages}
use Rattle.event_core.specs.declared.state.Core.{Core}
use Rattle.event_core.specs.History.{is_pages_of, pages_after}
use Rattle.event_core.specs.Pages.{fresh_of}

-- the versions after it
abbrev pub pages_by : NextPages → List VersionPages → List VersionPages
pages_by Stay versions = versions
pages_by (Add room next) versions = versions ++ next ∷ []
pages_by (WithoutArray name) versions = filter (λ v. not (is_pages_of name v)) versions
pages_by (WithoutBelow name below) versions = filter (λ v. not (is_pages_of name v && nat_lt v.version below)) versions

-- there is room for one more version than so many, where one more comes
abbrev pub HasRoom : NextPages → ℕ → Type 0
HasRoom Stay count = Unit {0}
HasRoom (Add room next) count = count < room
HasRoom (WithoutArray name) count = Unit {0}
HasRoom (WithoutBelow name below) count = Unit {0}

-- what is kept for a commit is what it makes of the core
pub record IsMade (core : Core) (change : Change) (used : Used) (later : Names) (next : NextPages) (chain taken : List ℕ) : Type 0 where
  pub names : later ≡ names_after core.names change
  pub pages : pages_by next core.pages ≡ pages_after core.names change used.version core.pages
  pub room : HasRoom next (length core.pages)
  pub catalogue : chain ≡ used.catalogue
  pub fresh : taken ≡ fresh_of core.names core.pages core.catalogue change used
