use Rattle.std.proofs.Common.{◌+◌, take, refl, ap}
use Rattle.page_chain.specs.Places.{KeepsPages}
use Rattle.page_chain.specs.Pages.{page_size, HoldsBlob}
use Rattle.page_chain.proofs.RunLemmas.{writes_none, writes_on, writes_more, sees_self, sees_more, sees_on}
use Rattle.page_chain.specs.declared.slots.slots.slots.Slots.{Slots}
use Rattle.page_chain.proofs.Kept.{keeps_self, keeps_on, keeps_more}
use Rattle.page_file.specs.Commits.{pages_of, HoldsBlobs}
use Rattle.page_file.proofs.Kept.{sound_on}
use Rattle.page_file.proofs.BlobLemmas.{may_part, part_of, sized_part, holds_more, holds_whole}
use Rattle.page_file.proofs.GoingLemmas.{sound_self}
use Rattle.page_file.proofs.SlotLemmas.{closed_on, emptied_then, emptied_again, cause_on}
use Rattle.page_file.proofs.commits.pages.write_blobs.Goals as goal

pub write_blob-requires : goal.write_blob-requires
write_blob-requires g c = record {
  sized = sized_part c.args.blobs.now c.loop-blob.blob-index c.blob-item.result c.loop-blob-test.true c.blob-item.is c.requires.sized;
  closed = closed_on c.args.file.now.slots c.loop-blob.file.slots c.requires.closed c.loop-blob.invariant.slots;
  free = may_part c.args.blobs.now c.loop-blob.blob-index c.blob-item.result c.args.file.now.slots c.loop-blob.file.slots c.loop-blob-test.true c.blob-item.is
      (ap (λ (s : Slots). s.current) c.loop-blob.invariant.slots) c.requires.free;
}

pub loop-blob-init : goal.loop-blob-init
loop-blob-init g c =
    let m = g.D.Disk.moment c.args.file.now.disk in
    record {
      slots = refl;
      sound = sound_self c.args.file.now.slots m;
      writes = writes_none (pages_of c.args.blobs.now) m.state m.left_since m.may_leave (g.met.D.Disk.only_now c.args.file.now.disk);
      seen = sees_self m.state (KeepsPages (pages_of c.args.blobs.now)) (λ x. keeps_self (pages_of c.args.blobs.now) x);
      holds = sees_self m.state (λ seen now. HoldsBlobs now (take 0 c.args.blobs.now)) (λ x. tt);
    }

pub loop-blob-preserved : goal.loop-blob-preserved
loop-blob-preserved g c =
    let blobs = c.args.blobs.now in
    let b = c.blob-item.result in
    let i = c.loop-blob.blob-index in
    let low = c.loop-blob-test.true in
    let old = c.args.file.now in
    let mid = c.loop-blob.file in
    let new = c.write_blob.new.file in
    let m0 = g.D.Disk.moment old.disk in
    let m1 = g.D.Disk.moment mid.disk in
    let m2 = g.D.Disk.moment new.disk in
    let before = c.loop-blob.invariant in
    let step = c.in-Ok.ensures in
    record {
      slots = emptied_again old.slots mid.slots new.slots before.slots step.slots;
      sound = sound_on old.slots mid.slots new.slots m0.state m1.state m2.state m0.may_leave m1.may_leave m2.may_leave before.writes.same before.sound step.sound;
      writes = writes_on (pages_of blobs) _ _ _ _ _ _ _ _ _ before.writes (writes_more b.pages (pages_of blobs) _ _ _ _ _ _ (part_of blobs i b low c.blob-item.is) step.writes);
      seen = sees_on m0.state m1.state m2.state (KeepsPages (pages_of blobs)) (λ seen now. KeepsPages b.pages seen now × HoldsBlob page_size now b.pages b.bytes) (KeepsPages (pages_of blobs))
          (λ x y z p q. keeps_on (pages_of blobs) x y z p (keeps_more b.pages (pages_of blobs) y z (part_of blobs i b low c.blob-item.is) q.0)) before.writes.same before.seen step.seen;
      holds = sees_on m0.state m1.state m2.state (λ seen now. HoldsBlobs now (take i blobs)) (λ seen now. KeepsPages b.pages seen now × HoldsBlob page_size now b.pages b.bytes) (λ seen now. HoldsBlobs now (take (i + 1) blobs))
          (λ x y z so_far more. holds_more blobs i b y z low c.blob-item.is c.requires.free.distinct more.0 more.1 so_far) before.writes.same before.holds step.seen;
    }

pub returns-in-Err : goal.returns-in-Err
returns-in-Err g c =
    let old = c.args.file.now in
    let mid = c.loop-blob.file in
    let new = c.write_blob.new.file in
    let blobs = c.args.blobs.now in
    let b = c.blob-item.result in
    let i = c.loop-blob.blob-index in
    let low = c.loop-blob-test.true in
    record {
      slots = emptied_again old.slots mid.slots new.slots c.loop-blob.invariant.slots c.in-Err.ensures.slots;
      stopped = emptied_then old.slots mid.slots new.slots c.loop-blob.invariant.slots c.in-Err.ensures.slots;
      sound = let m0 = g.D.Disk.moment old.disk in
          let m1 = g.D.Disk.moment mid.disk in
          let m2 = g.D.Disk.moment new.disk in
          sound_on old.slots mid.slots new.slots m0.state m1.state m2.state m0.may_leave m1.may_leave m2.may_leave c.loop-blob.invariant.writes.same c.loop-blob.invariant.sound c.in-Err.ensures.sound;
      seen = let m0 = g.D.Disk.moment old.disk in
          let m1 = g.D.Disk.moment mid.disk in
          let m2 = g.D.Disk.moment new.disk in
          sees_on m0.state m1.state m2.state (KeepsPages (pages_of blobs)) (λ seen now. KeepsPages b.pages seen now × Unit {0}) (KeepsPages (pages_of blobs))
          (λ x y z p q. keeps_on (pages_of blobs) x y z p (keeps_more b.pages (pages_of blobs) y z (part_of blobs i b low c.blob-item.is) q.0)) c.loop-blob.invariant.writes.same c.loop-blob.invariant.seen c.in-Err.ensures.seen;
      writes = writes_on (pages_of blobs) _ _ _ _ _ _ _ _ _ c.loop-blob.invariant.writes
          (writes_more b.pages (pages_of blobs) _ _ _ _ _ _ (part_of blobs i b low c.blob-item.is) c.in-Err.ensures.writes);
      holds = tt;
      cause = cause_on (g.D.Disk.moment old.disk).state (g.D.Disk.moment mid.disk).state (g.D.Disk.moment new.disk).state c.loop-blob.invariant.writes.same c.in-Err.ensures.cause;
    }

pub returns : goal.returns
returns g c =
    let blobs = c.args.blobs.now in
    let i = c.loop-blob.blob-index in
    record {
      slots = c.loop-blob.invariant.slots;
      stopped = tt;
      sound = c.loop-blob.invariant.sound;
      seen = c.loop-blob.invariant.seen;
      writes = c.loop-blob.invariant.writes;
      holds = sees_more (g.D.Disk.moment c.args.file.now.disk).state (g.D.Disk.moment c.loop-blob.file.disk).state (λ seen now. HoldsBlobs now (take i blobs)) (λ seen now. HoldsBlobs now blobs)
          (λ x y h. holds_whole blobs i y c.loop-blob-test.false h) c.loop-blob.invariant.holds;
      cause = tt;
    }
