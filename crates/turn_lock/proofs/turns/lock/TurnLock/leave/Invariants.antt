use Rattle.turn_lock.proofs.turns.lock.TurnLock.leave.Given as goal

abbrev pub ghosts-make_known : goal.ghosts-make_known
ghosts-make_known g a = record { entries = g.V.History.entries a.turn.now.value }
