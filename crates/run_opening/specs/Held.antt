-- What a store holds at the end of a run, on an honest disk that told the bytes of a database as it was opened.
use Rattle.std.specs.Prelude.{ℕ, ◌+◌, List, IfSome}
use Rattle.std.specs.List.{AllZip}
use Rattle.afl_outside.specs.Disk.{Moment}
use Rattle.event_core.specs.Legal.{IsLegal}
use Rattle.store_state.specs.Costs.{cost_from}
use Rattle.plan_changes.specs.Databases.{Database}
use Rattle.store_ledger.specs.Ledger.{history}
use Rattle.store_state.specs.Standings.{HaveStood, IsAttempt, Standing, StandsFor, base_of, commit_places, database_at}

-- The history is legal. Each image that the disk may leave now stands for the database after all commits, or for that after a change that is in
-- doubt. Each image that a stop since the opening might have left stands for the database after some beginning of the history, or for that after
-- one more change, which a session tried to commit there; and since a commit was acknowledged none is of a shorter history
pub record HoldsHistory {D : Type 0} (moment : D → Moment) (store : Standing D) (db : Database) : Type 0 where
  pub legal : IsLegal (cost_from (base_of store).records) db store.ledger.base (history store.ledger)
  pub doubt : IfSome store.doubt (IsAttempt db store.ledger.notes (history store.ledger))
  pub now : (image : List ℕ) → (moment store.disk).may_leave image → StandsFor (database_at db store) store.doubt image
  pub past : HaveStood (moment store.disk) db store.ledger.notes (history store.ledger) 0 (moment store.opened.disk).state.moment
  pub acked : AllZip (λ place since. HaveStood (moment store.disk) db store.ledger.notes (history store.ledger) (place + 1) since)
      (commit_places 0 store.ledger.entries) store.acked
