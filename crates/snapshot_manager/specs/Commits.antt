-- What is said of each answer of a commit.
use Rattle.std.specs.Prelude.{ℕ, Result, Ok, Err}
use Rattle.turn_lock.specs.declared.turns.seat.Turn.{Turn}
use Rattle.array_store.specs.StoreParts.{StoreParts}
use Rattle.array_store.specs.declared.told.commits.fault.CommitFault.{CommitFault}
use Rattle.snapshot_manager.specs.declared.committing.Commit.{Commit}
use Rattle.snapshot_manager.specs.declared.committing.Commit.TheVariants.{Done, Stale}

module _ {D : Type 0} where
  abbrev pub IfDone : (ℕ → Type 0) → Result (Commit D) CommitFault → Type 0
  IfDone P (Ok (Done place)) = P place
  IfDone P (Ok (Stale turn)) = Unit {0}
  IfDone P (Err fault) = Unit {0}

  abbrev pub IfStale : (Turn (StoreParts D) → Type 0) → Result (Commit D) CommitFault → Type 0
  IfStale P (Ok (Done place)) = Unit {0}
  IfStale P (Ok (Stale turn)) = P turn
  IfStale P (Err fault) = Unit {0}

  -- where no turn is left
  abbrev pub OnEnd : Type 0 → Result (Commit D) CommitFault → Type 0
  OnEnd P (Ok (Done place)) = P
  OnEnd P (Ok (Stale turn)) = Unit {0}
  OnEnd P (Err fault) = P
