use Rattle.std.proofs.Common.{◌≡◌, ℕ, List, Some, true, sym, ◌∙◌, ap, subst, [], ◌∷◌}
use Rattle.page_chain.proofs.RunLemmas.{goes}
use Rattle.page_chain.specs.Standing.{IsTarget}
use Rattle.page_chain.specs.declared.slots.slots.slots.Slots.{Slots}
use Rattle.page_chain.specs.declared.slots.slots.slots.NextEntry.TheVariants as entries
use Rattle.page_chain.proofs.Kept.{keeps_more}
use Rattle.page_file.specs.Commits.{commit_pages, HoldsAll}
use Rattle.page_file.proofs.Kept.{at_some, sound_on}
use Rattle.page_file.proofs.BlobLemmas.{first_of, second_of}
use Rattle.page_file.proofs.GoingLemmas.{put_holds, stays_known, reread_of, reread_then}
use Rattle.page_file.proofs.RecordLemmas.{body_keeps, filled_goes, pages_more}
use Rattle.page_file.proofs.SlotLemmas.{cause_on, entry_ready, entry_written, entry_unwritten, entry_unfilled}
use Rattle.page_file.proofs.commits.records.fill_record.Goals as goal

pub write_pages-requires : goal.write_pages-requires
write_pages-requires g c = record {
  closed = c.requires.closed;
  sized = c.requires.sized;
  free = c.requires.free;
  chain = c.requires.chain;
}

pub write_record-requires : goal.write_record-requires
write_record-requires g c = record {
  sure = ap (λ (s : Slots). s.doubtful) c.in-Ok.ensures.slots ∙ c.requires.closed.sure;
  target = ap (λ (s : Slots). s.target) c.in-Ok.ensures.slots ∙ c.requires.target;
  there = subst IsTarget (sym c.in-Ok.ensures.slots) c.requires.there;
  closed = entry_ready c.args.file.now.slots c.write_pages.new.file.slots c.requires.closed c.requires.target c.in-Ok.ensures.slots;
}

pub returns-in-Err-write_record : goal.returns-in-Err-write_record
returns-in-Err-write_record g c =
    let old = c.args.file.now in
    let mid = c.write_pages.new.file in
    let new = c.write_record.new.self in
    let m0 = g.D.Disk.moment old.disk in
    let m1 = g.D.Disk.moment mid.disk in
    let m2 = g.D.Disk.moment new.disk in
    let page = c.args.file.now.slots.current.root.log in
    let pages = commit_pages c.args.blobs.now c.args.chain.now in
    record {
      slots = entry_unwritten old.slots mid.slots new.slots true c.in-Ok.ensures.slots c.in-Err-write_record.ensures.slots;
      known = stays_known old.slots new.slots m0 m2 (goes m0.state m1.state m2.state c.in-Ok.ensures.writes.same c.in-Err-write_record.ensures.writes.same)
          (sound_on old.slots mid.slots new.slots m0.state m1.state m2.state m0.may_leave m1.may_leave m2.may_leave c.in-Ok.ensures.writes.same c.in-Ok.ensures.sound c.in-Err-write_record.ensures.sound);
      goes = λ seen known.
          let s = stays_known old.slots mid.slots m0 m1 c.in-Ok.ensures.writes.same c.in-Ok.ensures.sound seen known in
          filled_goes old.slots mid.slots (commit_pages c.args.blobs.now c.args.chain.now) seen s.0 m0 m1 m2 c.requires.target c.requires.there c.requires.closed c.requires.free c.in-Ok.ensures.slots known s.1 (g.met.D.Disk.as_read mid.disk)
          c.in-Ok.ensures.writes c.in-Err-write_record.ensures.writes c.in-Err-write_record.ensures.opens;
      holds = tt;
      seen = λ seen known.
          let s = stays_known old.slots mid.slots m0 m1 c.in-Ok.ensures.writes.same c.in-Ok.ensures.sound seen known in
          let first = reread_of pages seen old.slots m0 m1 known c.in-Ok.ensures.seen in
          reread_then pages (page ∷ []) (page ∷ pages) seen first.0 s.0 m1 m2 (second_of (page ∷ []) pages) (first_of (page ∷ []) pages) first.1 s.1.tells first.2
          (reread_of (page ∷ []) s.0 mid.slots m1 m2 s.1 (body_keeps old.slots mid.slots s.0 m1 m2 c.requires.target c.requires.there c.in-Ok.ensures.slots s.1 (g.met.D.Disk.as_read mid.disk) c.in-Err-write_record.ensures.writes));
      same = goes (g.D.Disk.moment old.disk).state (g.D.Disk.moment mid.disk).state (g.D.Disk.moment new.disk).state c.in-Ok.ensures.writes.same c.in-Err-write_record.ensures.writes.same;
      cause = cause_on (g.D.Disk.moment old.disk).state (g.D.Disk.moment mid.disk).state (g.D.Disk.moment new.disk).state c.in-Ok.ensures.writes.same c.in-Err-write_record.ensures.cause;
    }

pub returns-in-Err : goal.returns-in-Err
returns-in-Err g c =
    let old = c.args.file.now in
    let mid = c.write_pages.new.file in
    let page = c.args.file.now.slots.current.root.log in
    let pages = commit_pages c.args.blobs.now c.args.chain.now in
    record {
      slots = entry_unfilled old.slots mid.slots c.requires.closed c.requires.target c.in-Err.ensures.slots;
      known = stays_known old.slots mid.slots (g.D.Disk.moment old.disk) (g.D.Disk.moment mid.disk) c.in-Err.ensures.writes.same c.in-Err.ensures.sound;
      goes = λ seen known.
          pages_more old.slots (commit_pages c.args.blobs.now c.args.chain.now) seen (g.D.Disk.moment old.disk) (g.D.Disk.moment mid.disk) known c.requires.closed c.requires.free c.in-Err.ensures.writes;
      holds = tt;
      seen = λ seen known.
          let first = reread_of pages seen old.slots (g.D.Disk.moment old.disk) (g.D.Disk.moment mid.disk) known c.in-Err.ensures.seen in
          (first.0, first.1, keeps_more pages (page ∷ pages) seen first.0 (second_of (page ∷ []) pages) first.2);
      same = c.in-Err.ensures.writes.same;
      cause = c.in-Err.ensures.cause;
    }

pub returns-in-Ok-write_record : goal.returns-in-Ok-write_record
returns-in-Ok-write_record g c =
    let old = c.args.file.now in
    let mid = c.write_pages.new.file in
    let new = c.write_record.new.self in
    let m0 = g.D.Disk.moment old.disk in
    let m1 = g.D.Disk.moment mid.disk in
    let m2 = g.D.Disk.moment new.disk in
    let page = c.args.file.now.slots.current.root.log in
    let pages = commit_pages c.args.blobs.now c.args.chain.now in
    record {
      slots = entry_written old.slots mid.slots new.slots (entries.Written c.record.result) (entries.Written _) c.in-Ok.ensures.slots c.in-Ok-write_record.ensures.slots (ap entries.Written c.record.ensures);
      known = stays_known old.slots new.slots m0 m2 (goes m0.state m1.state m2.state c.in-Ok.ensures.writes.same c.in-Ok-write_record.ensures.writes.same)
          (sound_on old.slots mid.slots new.slots m0.state m1.state m2.state m0.may_leave m1.may_leave m2.may_leave c.in-Ok.ensures.writes.same c.in-Ok.ensures.sound c.in-Ok-write_record.ensures.sound);
      goes = λ seen known.
          let s = stays_known old.slots mid.slots m0 m1 c.in-Ok.ensures.writes.same c.in-Ok.ensures.sound seen known in
          filled_goes old.slots mid.slots (commit_pages c.args.blobs.now c.args.chain.now) seen s.0 m0 m1 m2 c.requires.target c.requires.there c.requires.closed c.requires.free c.in-Ok.ensures.slots known s.1 (g.met.D.Disk.as_read mid.disk)
          c.in-Ok.ensures.writes c.in-Ok-write_record.ensures.writes c.in-Ok-write_record.ensures.opens;
      holds = λ seen known.
          let s = stays_known old.slots mid.slots m0 m1 c.in-Ok.ensures.writes.same c.in-Ok.ensures.sound seen known in
          let x = at_some m0.state.seen seen (λ y. (now : List ℕ) × (m1.state.seen ≡ Some now) × HoldsAll now c.args.blobs.now c.args.chain.now) known.tells (c.in-Ok.ensures.holds known.honest) in
          put_holds old.slots.current.root.log c.args.blobs.now c.args.chain.now x.0 m1 m2 s.1.honest x.1 c.requires.free.log x.2
          (body_keeps old.slots mid.slots s.0 m1 m2 c.requires.target c.requires.there c.in-Ok.ensures.slots s.1 (g.met.D.Disk.as_read mid.disk) c.in-Ok-write_record.ensures.writes) c.in-Ok-write_record.ensures.durable;
      seen = λ seen known.
          let s = stays_known old.slots mid.slots m0 m1 c.in-Ok.ensures.writes.same c.in-Ok.ensures.sound seen known in
          let first = reread_of pages seen old.slots m0 m1 known c.in-Ok.ensures.seen in
          reread_then pages (page ∷ []) (page ∷ pages) seen first.0 s.0 m1 m2 (second_of (page ∷ []) pages) (first_of (page ∷ []) pages) first.1 s.1.tells first.2
          (reread_of (page ∷ []) s.0 mid.slots m1 m2 s.1 (body_keeps old.slots mid.slots s.0 m1 m2 c.requires.target c.requires.there c.in-Ok.ensures.slots s.1 (g.met.D.Disk.as_read mid.disk) c.in-Ok-write_record.ensures.writes));
      same = goes (g.D.Disk.moment old.disk).state (g.D.Disk.moment mid.disk).state (g.D.Disk.moment new.disk).state c.in-Ok.ensures.writes.same c.in-Ok-write_record.ensures.writes.same;
      cause = tt;
    }
