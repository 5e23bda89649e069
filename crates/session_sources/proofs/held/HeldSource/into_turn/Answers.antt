use Rattle.std.proofs.Common.{◌≡◌, refl, subst}
use Rattle.session_sources.specs.Held.{HasHeld}
use Rattle.session_sources.proofs.held.HeldSource.into_turn.Goals as goal

pub returns-clause-held : goal.returns-clause-held
returns-clause-held g c = subst (HasHeld g.D.Disk.moment) c.self.view_is c.self.invariant

pub returns-clause-turn : goal.returns-clause-turn
returns-clause-turn g c = subst (λ h. c.self.inside.turn ≡ h.turn) c.self.view_is refl
