-- The pages that a commit may use and that are not fresh, as one list.
use Rattle.std.specs.Prelude.{ℕ, ◌&&◌, nat_eq, if◌then◌else◌, List, [], ◌++◌}
use Rattle.std.specs.List.{flat_map}
use Rattle.plan_changes.specs.Names.{Names}
use Rattle.plan_changes.specs.Changes.{newest_of}
use Rattle.event_core.specs.declared.state.VersionPages.{VersionPages}
use Rattle.event_core.specs.History.{is_pages_of}

-- the pages of a version, if it has this name and number
abbrev pub pages_if : List ℕ → ℕ → VersionPages → List ℕ
pages_if name number v = if is_pages_of name v && nat_eq v.version number then v.pages else []

-- the pages of the catalogue and of the array's newest version
abbrev pub known_of : Names → List VersionPages → List ℕ → List ℕ → List ℕ
known_of names versions catalogue name = catalogue ++ flat_map (pages_if name (newest_of names.arrays name)) versions
