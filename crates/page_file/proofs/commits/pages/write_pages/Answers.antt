use Rattle.std.proofs.Common.{◌++◌, ap}
use Rattle.page_chain.specs.Places.{KeepsPages}
use Rattle.page_chain.specs.Pages.{page_size}
use Rattle.page_chain.specs.Chains.{HoldsChain}
use Rattle.page_chain.proofs.RunLemmas.{writes_follow, writes_more, sees_on, sees_more}
use Rattle.page_chain.specs.declared.slots.slots.slots.Slots.{Slots}
use Rattle.page_chain.proofs.Kept.{keeps_on, keeps_more}
use Rattle.page_file.specs.Commits.{pages_of, HoldsBlobs, HoldsAll}
use Rattle.page_file.proofs.Kept.{sound_on}
use Rattle.page_file.proofs.BlobLemmas.{may_first, may_second, first_of, apart_of, blobs_on, second_of}
use Rattle.page_file.proofs.SlotLemmas.{closed_on, emptied_then, cause_on}
use Rattle.page_file.proofs.commits.pages.write_pages.Goals as goal

pub write_chain-requires : goal.write_chain-requires
write_chain-requires g c = record {
  closed = closed_on c.args.file.now.slots c.write_blobs.new.file.slots c.requires.closed c.in-Ok.ensures.slots;
  free = may_second (pages_of c.args.blobs.now) c.args.chain.now.pages c.args.file.now.slots c.write_blobs.new.file.slots (ap (λ (s : Slots). s.current) c.in-Ok.ensures.slots) c.requires.free;
  sized = c.requires.chain;
}

pub write_blobs-requires : goal.write_blobs-requires
write_blobs-requires g c = record {
  free = may_first (pages_of c.args.blobs.now) c.args.chain.now.pages c.args.file.now.slots c.requires.free;
  sized = c.requires.sized;
  closed = c.requires.closed;
}

pub returns-in-Err : goal.returns-in-Err
returns-in-Err g c =
    let first = pages_of c.args.blobs.now in
    let second = c.args.chain.now.pages in
    record {
      slots = c.in-Err.ensures.stopped;
      sound = c.in-Err.ensures.sound;
      seen = sees_more (g.D.Disk.moment c.args.file.now.disk).state (g.D.Disk.moment c.write_blobs.new.file.disk).state (KeepsPages first) (KeepsPages (first ++ second)) (λ x y p. keeps_more first (first ++ second) x y (first_of first second) p) c.in-Err.ensures.seen;
      writes = writes_more (pages_of c.args.blobs.now) (pages_of c.args.blobs.now ++ second) _ _ _ _ _ _ (first_of (pages_of c.args.blobs.now) second) c.in-Err.ensures.writes;
      holds = tt;
      cause = c.in-Err.ensures.cause;
    }

pub returns-in-Err-write_chain : goal.returns-in-Err-write_chain
returns-in-Err-write_chain g c =
    let old = c.args.file.now in
    let mid = c.write_blobs.new.file in
    let new = c.write_chain.new.file in
    let m0 = g.D.Disk.moment old.disk in
    let m1 = g.D.Disk.moment mid.disk in
    let m2 = g.D.Disk.moment new.disk in
    let first = pages_of c.args.blobs.now in
    let second = c.args.chain.now.pages in
    let all = first ++ second in
    record {
      slots = emptied_then old.slots mid.slots new.slots c.in-Ok.ensures.slots c.in-Err-write_chain.ensures.slots;
      sound = sound_on old.slots mid.slots new.slots m0.state m1.state m2.state m0.may_leave m1.may_leave m2.may_leave c.in-Ok.ensures.writes.same c.in-Ok.ensures.sound c.in-Err-write_chain.ensures.sound;
      seen = sees_on (g.D.Disk.moment old.disk).state (g.D.Disk.moment mid.disk).state (g.D.Disk.moment new.disk).state (KeepsPages first) (λ seen now. KeepsPages second seen now × Unit {0}) (KeepsPages all)
          (λ x y z p q. keeps_on all x y z (keeps_more first all x y (first_of first second) p) (keeps_more second all y z (second_of first second) q.0)) c.in-Ok.ensures.writes.same c.in-Ok.ensures.seen c.in-Err-write_chain.ensures.seen;
      writes = writes_follow (pages_of c.args.blobs.now) second _ _ _ _ _ _ _ _ _ c.in-Ok.ensures.writes c.in-Err-write_chain.ensures.writes;
      holds = tt;
      cause = cause_on (g.D.Disk.moment old.disk).state (g.D.Disk.moment mid.disk).state (g.D.Disk.moment new.disk).state c.in-Ok.ensures.writes.same c.in-Err-write_chain.ensures.cause;
    }

pub returns-in-Ok-write_chain : goal.returns-in-Ok-write_chain
returns-in-Ok-write_chain g c =
    let old = c.args.file.now in
    let mid = c.write_blobs.new.file in
    let new = c.write_chain.new.file in
    let m0 = g.D.Disk.moment old.disk in
    let m1 = g.D.Disk.moment mid.disk in
    let m2 = g.D.Disk.moment new.disk in
    let first = pages_of c.args.blobs.now in
    let second = c.args.chain.now.pages in
    let all = first ++ second in
    let blobs = c.args.blobs.now in
    let chain = c.args.chain.now in
    record {
      slots = emptied_then old.slots mid.slots new.slots c.in-Ok.ensures.slots c.in-Ok-write_chain.ensures.slots;
      sound = sound_on old.slots mid.slots new.slots m0.state m1.state m2.state m0.may_leave m1.may_leave m2.may_leave c.in-Ok.ensures.writes.same c.in-Ok.ensures.sound c.in-Ok-write_chain.ensures.sound;
      seen = sees_on (g.D.Disk.moment old.disk).state (g.D.Disk.moment mid.disk).state (g.D.Disk.moment new.disk).state (KeepsPages first) (λ seen now. KeepsPages second seen now × HoldsChain page_size now second chain.bytes) (KeepsPages all)
          (λ x y z p q. keeps_on all x y z (keeps_more first all x y (first_of first second) p) (keeps_more second all y z (second_of first second) q.0)) c.in-Ok.ensures.writes.same c.in-Ok.ensures.seen c.in-Ok-write_chain.ensures.seen;
      writes = writes_follow (pages_of blobs) second _ _ _ _ _ _ _ _ _ c.in-Ok.ensures.writes c.in-Ok-write_chain.ensures.writes;
      holds = sees_on (g.D.Disk.moment old.disk).state (g.D.Disk.moment mid.disk).state (g.D.Disk.moment new.disk).state
          (λ seen now. HoldsBlobs now blobs) (λ seen now. KeepsPages chain.pages seen now × HoldsChain page_size now chain.pages chain.bytes) (λ seen now. HoldsAll now blobs chain)
          (λ x y z so_far more. (blobs_on blobs chain.pages y z more.0 (apart_of (pages_of blobs) chain.pages c.requires.free.distinct) so_far, more.1))
          c.in-Ok.ensures.writes.same c.in-Ok.ensures.holds c.in-Ok-write_chain.ensures.seen;
      cause = tt;
    }
