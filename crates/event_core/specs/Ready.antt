-- Commits that are made ready.
use Rattle.std.specs.Prelude.{◌≡◌}
use Rattle.plan_changes.specs.declared.change.Change.{Change}
use Rattle.event_core.specs.declared.entry.Used.{Used}
use Rattle.event_core.specs.declared.state.Core.{Core}

-- what a commit was made ready for: the core before it, its change and its pages
pub record ReadyFor : Type 0 where
  pub core : Core
  pub change : Change
  pub used : Used

-- a core with the names, the versions and the catalogue of the one that the commit was made ready over. Pins, unpins and reaps may
-- lie between the two, since they leave these; where a commit lies between, what was made ready is refused
pub record IsReadyOver (ready : ReadyFor) (core : Core) : Type 0 where
  pub names : ready.core.names ≡ core.names
  pub pages : ready.core.pages ≡ core.pages
  pub catalogue : ready.core.catalogue ≡ core.catalogue
