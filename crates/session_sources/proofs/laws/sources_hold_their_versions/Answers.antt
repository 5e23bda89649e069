use Rattle.session_sources.proofs.VersionLaws.{held_sources_hold_versions, pinned_sources_hold_versions}
use Rattle.session_sources.proofs.laws.sources_hold_their_versions.Goals as goal

pub returns : goal.returns
returns g c = record { pinned = pinned_sources_hold_versions g.D.Disk.moment; held = held_sources_hold_versions g.D.Disk.moment }
