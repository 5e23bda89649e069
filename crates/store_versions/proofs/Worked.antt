-- The worked table, computed.
use Rattle.std.proofs.Common.{◌≡◌, [], ◌∷◌, drop, refl}
use Rattle.event_core.specs.Shared.{shared_base, shared}
use Rattle.store_versions.specs.Rows.{needed_rows, places_at}
use Rattle.store_versions.specs.Seen.{seen, AreSeen}
use Rattle.store_versions.specs.Worked.{worked_directories, worked_rows, first_version, second_version}

pub worked_seen : AreSeen worked_directories worked_rows shared_base (drop 2 shared)
worked_seen = record { now = refl; pinned = (refl, tt); past = refl }

pub pin_sees : seen 3 worked_rows ≡ first_version ∷ []
pin_sees = refl

pub present_sees : seen 11 worked_rows ≡ second_version ∷ []
present_sees = refl

pub pin_needs : needed_rows (places_at (drop 2 shared)) worked_rows ≡ worked_rows
pin_needs = refl

pub forgotten_later : needed_rows (places_at shared) worked_rows ≡ drop 1 worked_rows
forgotten_later = refl
