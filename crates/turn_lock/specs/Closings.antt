-- What a clause says of a lock that is being closed.
use Rattle.std.specs.Prelude.{List}
use Rattle.turn_lock.specs.declared.turns.closing.Closing.{Closing}
use Rattle.turn_lock.specs.declared.turns.lock.TurnLock.{TurnLock}
use Rattle.turn_lock.specs.declared.turns.view.Claim.{Claim}

module _ {V O E : Type 0} where
  abbrev pub lock_of : Closing V O E → TurnLock V O E
  lock_of c = c.lock

  -- the claims of the seats that are back, the last one first
  abbrev pub claims_of : Closing V O E → List (Claim E)
  claims_of c = c.all.me.0.claims
