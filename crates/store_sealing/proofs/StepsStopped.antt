-- A store keeps what it keeps where a commit stopped.
use Rattle.afl_outside.specs.Disk.{Moment}
use Rattle.page_chain.specs.declared.slots.slots.slots.Slots.{Slots}
use Rattle.page_file.specs.declared.commits.stopped.Stopped.{Stopped}
use Rattle.store_ledger.specs.Ledger.{history}
use Rattle.prepared_commits.specs.Standings.{Standing, base_of, given_of}
use Rattle.prepared_commits.specs.Kept.{IsKept}
use Rattle.prepared_commits.specs.Keeping.{Keeping}
use Rattle.prepared_commits.specs.declared.commits.prepared.Prepared.{Prepared}
use Rattle.store_sealing.specs.StepsLaws.{IsReady, StoppedStoresAreKept}
use Rattle.store_sealing.specs.Steps.{doubt_after, stopped_keeping}
use Rattle.store_sealing.proofs.Kept.{its_target}
use Rattle.store_sealing.proofs.Notes.{kept_on}
use Rattle.store_sealing.proofs.Slots.{stopped_are_slots, stopped_doubt}

module _ {D : Type 0} (moment : D → Moment) (s : Standing D) (k : Keeping) (p : Prepared) (stage : Stopped) (later : Slots) (ready : IsReady moment s k p) where
  kept_stopped : IsKept moment (record s { doubt = doubt_after stage s.doubt p.commit.change }) (stopped_keeping stage k p later) (history s.ledger) (given_of s)
  kept_stopped =
      let x : IsKept moment s k (history s.ledger) (given_of s) = ready.kept in
      record {
        in_order = x.in_order;
        catalog = x.catalog;
        names = x.names;
        versions = x.versions;
        slots = stopped_are_slots (base_of s) (history s.ledger) stage p.base p.chain k.slots later (its_target moment s k p ready) x.slots;
        doubt = stopped_doubt stage p.base p.chain k.slots later s.doubt p.commit.change (its_target moment s k p ready) x.slots.alone x.doubt;
        acked = x.acked;
        made = x.made;
        tried = x.tried;
        noted = x.noted;
      }

pub stopped_stores : {D : Type 0} (moment : D → Moment) → StoppedStoresAreKept moment
stopped_stores moment s k p stage later ledger disk ready on notes =
    kept_on moment (record s { doubt = doubt_after stage s.doubt p.commit.change }) (stopped_keeping stage k p later) disk p.session on
    (kept_stopped moment s k p stage later ready) ledger notes
