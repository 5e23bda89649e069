-- The core of a history, entry by entry.
use Rattle.std.proofs.Common.{false, not, ◌&&◌, refl, ap, sym}
use Rattle.event_core.specs.PageSets.{holds}
use Rattle.event_core.specs.declared.entry.Entry.TheVariants.{Pin, Unpin, Commit, Reap}
use Rattle.event_core.specs.Pages.{free_at}
use Rattle.event_core.proofs.Steps.{core_live}
use Rattle.event_core.proofs.Tests.{both_not}
use Rattle.store_versions.specs.Cores.{CoreTellsPages, ReadyOutlasts}

pub core_tells_pages : CoreTellsPages
core_tells_pages base h page =
    (sym (core_live base h page), ap (λ b. not (holds (free_at base h) page) && not b) (sym (core_live base h page)))

pub ready_outlasts : ReadyOutlasts
ready_outlasts ready core (Pin session) ok r = record { names = r.names; pages = r.pages; catalogue = r.catalogue }
ready_outlasts ready core (Unpin session) ok r = record { names = r.names; pages = r.pages; catalogue = r.catalogue }
ready_outlasts ready core (Commit session change used) ok r = absurd (both_not false refl ok)
ready_outlasts ready core Reap ok r = record { names = r.names; pages = r.pages; catalogue = r.catalogue }
