-- What a sealed commit adds to the events of a store.
use Rattle.std.specs.Prelude.{[], ◌∷◌}
use Rattle.afl_outside.specs.Counts.{Rose}
use Rattle.afl_outside.specs.Disk.{Moment}
use Rattle.store_opening.specs.Event.TheVariants.{Acknowledged}
use Rattle.store_opening.specs.Standings.{Standing}
use Rattle.prepared_commits.specs.declared.commits.prepared.Prepared.{Prepared}
use Rattle.store_sealing.specs.Steps.{entry_of, made_by, sealed_ledger}
use Rattle.array_store.specs.Growth.{AddsEvents, fault_events}

-- the commit, with the moment at which it was acknowledged and the directory that it made; where the disk's count of faults rose, the note
-- of a fault behind it
pub record AddsCommit {D : Type 0} (moment : D → Moment) (p : Prepared) (old new : Standing D) : Type 0 where
  pub rose : Rose (moment old.disk).state.faults (moment new.disk).state.faults →
      AddsEvents (Acknowledged (entry_of p) (moment new.disk).state.moment (made_by p) ∷ fault_events (sealed_ledger old p) p.session) old new
  pub still : ¬ Rose (moment old.disk).state.faults (moment new.disk).state.faults →
      AddsEvents (Acknowledged (entry_of p) (moment new.disk).state.moment (made_by p) ∷ []) old new
