use Rattle.std.specs.Prelude.{◌≡◌}
use Rattle.store_state.specs.Calls.{chunks_at}
use Rattle.snapshot_manager.specs.Seats.{store_seen, HoldsPin, IsIdle, IsSeatOf}
use Rattle.test_stores.proofs.reading.add_chunks.Given as goal

abbrev pub invariant-loop-at : goal.invariant-loop-at
invariant-loop-at g l = record {
  seat : IsSeatOf l.shared l.seat × IsIdle l.seat;
  pin : HoldsPin g.D.Disk.moment l.shared l.seat l.pinned;
  numbers : l.numbers ≡ chunks_at (store_seen g.D.Disk.moment l.shared l.seat) l.pinned.place l.leaf;
}
