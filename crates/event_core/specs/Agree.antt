-- The versions that can be named are those that have pages.
use Rattle.std.specs.Prelude.{◌≡◌, ℕ, Bool, true, not, ◌&&◌, nat_eq, List, [], ◌∷◌}
use Rattle.std.specs.List.{list_any}
use Rattle.plan_changes.specs.NameEntry.{NameEntry}
use Rattle.plan_changes.specs.Names.{Names}
use Rattle.plan_changes.specs.Changes.{is_named, has_array}
use Rattle.version_reaper.specs.PageSets.{holds}
use Rattle.event_core.specs.declared.state.VersionPages.{VersionPages}
use Rattle.event_core.specs.History.{is_pages_of}

-- whether a version can be named
abbrev pub can_name : Names → List ℕ → ℕ → Bool
can_name names name version = list_any (λ entry. is_named name entry && holds entry.versions version) names.arrays

-- whether a version has pages
abbrev pub has_version : List VersionPages → List ℕ → ℕ → Bool
has_version versions name version = list_any (λ v. is_pages_of name v && nat_eq v.version version) versions

-- each version that can be named has pages, and no other has
abbrev pub HavePages : Names → List VersionPages → Type 0
HavePages names versions = (name : List ℕ) (version : ℕ) → can_name names name version ≡ has_version versions name version

-- whether no two entries have one name
abbrev pub are_unique : List NameEntry → Bool
are_unique [] = true
are_unique (entry ∷ entries) = not (has_array entries entry.name) && are_unique entries
