use Rattle.std.proofs.Common.{[], ◌∷◌, Some, ap, ◌++◌}
use Rattle.page_chain.specs.Places.{KeepsPages}
use Rattle.page_chain.proofs.RunLemmas.{writes_follow, writes_more, sees_on, sees_more}
use Rattle.page_chain.specs.declared.slots.slots.slots.Slots.{Slots}
use Rattle.page_chain.proofs.Kept.{keeps_on, keeps_more}
use Rattle.page_file.specs.Commits.{base_pages, commit_pages, HoldsAll}
use Rattle.page_file.proofs.Kept.{sound_on}
use Rattle.page_file.proofs.BaseLemmas.{last_apart, emptied_once}
use Rattle.page_file.proofs.BlobLemmas.{all_on, may_first, may_second, first_of, second_of}
use Rattle.page_file.proofs.SlotLemmas.{cause_on, closed_on, emptied_then, zeroed_only}
use Rattle.page_file.proofs.commits.bases.write_base_pages.Goals as goal

pub write_pages-requires : goal.write_pages-requires
write_pages-requires g c = record {
  free = may_first (commit_pages c.args.blobs.now c.args.chain.now) (c.args.log ∷ []) c.args.file.now.slots c.requires.free;
  closed = c.requires.closed;
  sized = c.requires.sized;
  chain = c.requires.chain;
}

pub write_zeros-requires : goal.write_zeros-requires
write_zeros-requires g c = record {
  free = may_second (commit_pages c.args.blobs.now c.args.chain.now) (c.args.log ∷ []) c.args.file.now.slots c.write_pages.new.file.slots (ap (λ (s : Slots). s.current) c.in-Ok.ensures.slots) c.requires.free;
  closed = closed_on c.args.file.now.slots c.write_pages.new.file.slots c.requires.closed (emptied_once c.args.file.now.slots c.write_pages.new.file.slots c.in-Ok.ensures.slots);
}

pub returns-in-Err-write_zeros : goal.returns-in-Err-write_zeros
returns-in-Err-write_zeros g c =
    let old = c.args.file.now in
    let mid = c.write_pages.new.file in
    let new = c.write_zeros.new.file in
    let m0 = g.D.Disk.moment old.disk in
    let m1 = g.D.Disk.moment mid.disk in
    let m2 = g.D.Disk.moment new.disk in
    let first = commit_pages c.args.blobs.now c.args.chain.now in
    let second = c.args.log ∷ [] in
    let all = first ++ second in
    record {
      slots = emptied_then old.slots mid.slots new.slots (emptied_once old.slots mid.slots c.in-Ok.ensures.slots) c.in-Err-write_zeros.ensures.slots;
      zeroed = tt;
      sound = sound_on old.slots mid.slots new.slots m0.state m1.state m2.state m0.may_leave m1.may_leave m2.may_leave c.in-Ok.ensures.writes.same c.in-Ok.ensures.sound c.in-Err-write_zeros.ensures.sound;
      seen = sees_on (g.D.Disk.moment old.disk).state (g.D.Disk.moment mid.disk).state (g.D.Disk.moment new.disk).state (KeepsPages first) (KeepsPages second) (KeepsPages all)
          (λ x y z p q. keeps_on all x y z (keeps_more first all x y (first_of first second) p) (keeps_more second all y z (second_of first second) q)) c.in-Ok.ensures.writes.same c.in-Ok.ensures.seen c.in-Err-write_zeros.ensures.seen;
      writes = writes_follow (commit_pages c.args.blobs.now c.args.chain.now) (c.args.log ∷ []) _ _ _ _ _ _ _ _ _ c.in-Ok.ensures.writes c.in-Err-write_zeros.ensures.writes;
      holds = tt;
      cause = cause_on (g.D.Disk.moment old.disk).state (g.D.Disk.moment mid.disk).state (g.D.Disk.moment new.disk).state c.in-Ok.ensures.writes.same c.in-Err-write_zeros.ensures.cause;
    }

pub returns-in-Ok-write_zeros : goal.returns-in-Ok-write_zeros
returns-in-Ok-write_zeros g c =
    let old = c.args.file.now in
    let mid = c.write_pages.new.file in
    let new = c.write_zeros.new.file in
    let m0 = g.D.Disk.moment old.disk in
    let m1 = g.D.Disk.moment mid.disk in
    let m2 = g.D.Disk.moment new.disk in
    let first = commit_pages c.args.blobs.now c.args.chain.now in
    let second = c.args.log ∷ [] in
    let all = first ++ second in
    let blobs = c.args.blobs.now in
    let chain = c.args.chain.now in
    record {
      slots = emptied_then old.slots mid.slots new.slots (emptied_once old.slots mid.slots c.in-Ok.ensures.slots)
          (zeroed_only mid.slots new.slots (Some c.args.log) c.in-Ok-write_zeros.ensures.slots);
      zeroed = ap (λ (s : Slots). s.zeroed) c.in-Ok-write_zeros.ensures.slots;
      sound = sound_on old.slots mid.slots new.slots m0.state m1.state m2.state m0.may_leave m1.may_leave m2.may_leave c.in-Ok.ensures.writes.same c.in-Ok.ensures.sound c.in-Ok-write_zeros.ensures.sound;
      seen = sees_on (g.D.Disk.moment old.disk).state (g.D.Disk.moment mid.disk).state (g.D.Disk.moment new.disk).state (KeepsPages first) (KeepsPages second) (KeepsPages all)
          (λ x y z p q. keeps_on all x y z (keeps_more first all x y (first_of first second) p) (keeps_more second all y z (second_of first second) q)) c.in-Ok.ensures.writes.same c.in-Ok.ensures.seen c.in-Ok-write_zeros.ensures.seen;
      writes = writes_follow (commit_pages blobs chain) (c.args.log ∷ []) _ _ _ _ _ _ _ _ _ c.in-Ok.ensures.writes c.in-Ok-write_zeros.ensures.writes;
      holds = sees_on (g.D.Disk.moment old.disk).state (g.D.Disk.moment mid.disk).state (g.D.Disk.moment new.disk).state
          (λ seen now. HoldsAll now blobs chain) (KeepsPages (c.args.log ∷ [])) (λ seen now. HoldsAll now blobs chain)
          (λ x y z so_far more. all_on c.args.log blobs chain y z (last_apart (commit_pages blobs chain) c.args.log c.requires.free.distinct) more so_far)
          c.in-Ok.ensures.writes.same c.in-Ok.ensures.holds c.in-Ok-write_zeros.ensures.seen;
      cause = tt;
    }

pub returns-in-Err : goal.returns-in-Err
returns-in-Err g c =
    let first = commit_pages c.args.blobs.now c.args.chain.now in
    let second = c.args.log ∷ [] in
    record {
      slots = c.in-Err.ensures.slots;
      zeroed = tt;
      sound = c.in-Err.ensures.sound;
      seen = sees_more (g.D.Disk.moment c.args.file.now.disk).state (g.D.Disk.moment c.write_pages.new.file.disk).state (KeepsPages first) (KeepsPages (first ++ second)) (λ x y p. keeps_more first (first ++ second) x y (first_of first second) p) c.in-Err.ensures.seen;
      writes = writes_more (commit_pages c.args.blobs.now c.args.chain.now) (base_pages c.args.blobs.now c.args.chain.now c.args.log) _ _ _ _ _ _ (first_of (commit_pages c.args.blobs.now c.args.chain.now) (c.args.log ∷ [])) c.in-Err.ensures.writes;
      holds = tt;
      cause = c.in-Err.ensures.cause;
    }
