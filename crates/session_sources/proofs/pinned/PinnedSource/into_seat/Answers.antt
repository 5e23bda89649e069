use Rattle.std.proofs.Common.{◌≡◌, refl, subst}
use Rattle.session_sources.specs.Pinned.{HasRead}
use Rattle.session_sources.proofs.pinned.PinnedSource.into_seat.Goals as goal

pub returns-clause-read : goal.returns-clause-read
returns-clause-read g c = subst (HasRead g.D.Disk.moment) c.self.view_is c.self.invariant

pub returns-clause-seat : goal.returns-clause-seat
returns-clause-seat g c = subst (λ r. c.self.inside.seat ≡ r.seat) c.self.view_is refl
