use Rattle.std.proofs.Common.{◌≡◌, take}
use Rattle.page_chain.specs.Places.{KeepsPages}
use Rattle.page_chain.specs.Inner.Runs.{OnlyWrites, Sees}
use Rattle.page_chain.specs.Standing.{KeepsSound}
use Rattle.page_chain.specs.Steps.{emptied}
use Rattle.page_file.specs.Commits.{pages_of, HoldsBlobs}
use Rattle.page_file.proofs.commits.pages.write_blobs.Given as goal

-- the first blobs stand in their pages
abbrev pub invariant-loop-blob : goal.invariant-loop-blob
invariant-loop-blob g l = record {
  slots : emptied l.file.slots ≡ record (emptied l.fn.file.slots) { zeroed = l.file.slots.zeroed };
  sound : KeepsSound l.fn.file.slots l.file.slots (g.D.Disk.moment l.fn.file.disk) (g.D.Disk.moment l.file.disk);
  writes : OnlyWrites (pages_of l.blobs) (g.D.Disk.moment l.fn.file.disk) (g.D.Disk.moment l.file.disk);
  seen : Sees (g.D.Disk.moment l.fn.file.disk).state (g.D.Disk.moment l.file.disk).state (KeepsPages (pages_of l.blobs));
  holds : Sees (g.D.Disk.moment l.fn.file.disk).state (g.D.Disk.moment l.file.disk).state (λ seen now. HoldsBlobs now (take l.blob-index l.blobs));
}
