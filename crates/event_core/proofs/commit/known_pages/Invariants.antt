use Rattle.std.proofs.Common.{◌≡◌, ◌++◌, take}
use Rattle.std.specs.List.{flat_map}
use Rattle.event_core.specs.Inner.Known.{pages_if}
use Rattle.event_core.proofs.commit.known_pages.Given as goal

abbrev pub invariant-loop-version : goal.invariant-loop-version
invariant-loop-version l = l.pages ≡ l.core.catalogue ++ flat_map (pages_if l.name l.newest) (take l.version-index l.version-items)
