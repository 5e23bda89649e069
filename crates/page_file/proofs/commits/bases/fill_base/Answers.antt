use Rattle.std.proofs.Common.{◌≡◌, ℕ, List, [], ◌∷◌, Some, true, ◌∙◌, ap}
use Rattle.page_chain.proofs.RunLemmas.{goes}
use Rattle.page_chain.specs.declared.slots.slots.slots.Slots.{Slots}
use Rattle.page_chain.specs.declared.slots.slots.slots.RootSlot.TheVariants as roots
use Rattle.page_chain.proofs.Kept.{keeps_more}
use Rattle.page_file.specs.Commits.{base_pages, commit_pages, root_of, HoldsAll}
use Rattle.page_file.proofs.Kept.{at_some, sound_on}
use Rattle.page_file.proofs.BlobLemmas.{first_of, second_of}
use Rattle.page_file.proofs.GoingLemmas.{put_holds, stays_known, reread_of, reread_then}
use Rattle.page_file.proofs.BaseLemmas.{body_keeps, filled_goes, newer_on, pages_more, root_fills, root_unfilled, root_unwritten, root_written}
use Rattle.page_file.proofs.SlotLemmas.{cause_on}
use Rattle.page_file.proofs.commits.bases.fill_base.Goals as goal

pub write_base_pages-requires : goal.write_base_pages-requires
write_base_pages-requires g c = record {
  closed = c.requires.closed;
  sized = c.requires.sized;
  free = c.requires.free;
  chain = c.requires.chain;
}

pub write_root-requires : goal.write_root-requires
write_root-requires g c = record {
  closed = root_fills c.args.file.now.slots c.write_base_pages.new.file.slots c.requires.closed c.requires.target c.in-Ok.ensures.slots;
  target = ap (λ (s : Slots). s.target) c.in-Ok.ensures.slots ∙ c.requires.target;
  newer = newer_on c.args.file.now.slots c.write_base_pages.new.file.slots c.root.result (root_of c.args.sequence c.args.chain.now c.args.log) c.in-Ok.ensures.slots c.root.ensures c.requires.newer;
  sure = ap (λ (s : Slots). s.doubtful) c.in-Ok.ensures.slots ∙ c.requires.closed.sure;
}

pub returns-in-Err-write_root : goal.returns-in-Err-write_root
returns-in-Err-write_root g c =
    let old = c.args.file.now in
    let mid = c.write_base_pages.new.file in
    let new = c.write_root.new.self in
    let m0 = g.D.Disk.moment old.disk in
    let m1 = g.D.Disk.moment mid.disk in
    let m2 = g.D.Disk.moment new.disk in
    let pages = base_pages c.args.blobs.now c.args.chain.now c.args.log in
    record {
      slots = root_unwritten old.slots mid.slots new.slots true c.in-Ok.ensures.slots c.in-Err-write_root.ensures.slots;
      known = stays_known old.slots new.slots m0 m2 (goes m0.state m1.state m2.state c.in-Ok.ensures.writes.same c.in-Err-write_root.ensures.writes.same)
          (sound_on old.slots mid.slots new.slots m0.state m1.state m2.state m0.may_leave m1.may_leave m2.may_leave c.in-Ok.ensures.writes.same c.in-Ok.ensures.sound c.in-Err-write_root.ensures.sound);
      goes = λ seen known.
          let s = stays_known old.slots mid.slots m0 m1 c.in-Ok.ensures.writes.same c.in-Ok.ensures.sound seen known in
          filled_goes old.slots mid.slots (base_pages c.args.blobs.now c.args.chain.now c.args.log) seen s.0 m0 m1 m2 c.requires.target c.requires.closed c.requires.free c.in-Ok.ensures.slots known s.1 (g.met.D.Disk.as_read mid.disk)
          c.in-Ok.ensures.writes c.in-Err-write_root.ensures.writes c.in-Err-write_root.ensures.opens;
      holds = tt;
      seen = λ seen known.
          let page : ℕ = 0 in
          let s = stays_known old.slots mid.slots m0 m1 c.in-Ok.ensures.writes.same c.in-Ok.ensures.sound seen known in
          let first = reread_of pages seen old.slots m0 m1 known c.in-Ok.ensures.seen in
          reread_then pages (page ∷ []) (page ∷ pages) seen first.0 s.0 m1 m2 (second_of (page ∷ []) pages) (first_of (page ∷ []) pages) first.1 s.1.tells first.2
          (reread_of (page ∷ []) s.0 mid.slots m1 m2 s.1 (body_keeps mid.slots s.0 m1 m2 (ap (λ (t : Slots). t.target) c.in-Ok.ensures.slots ∙ c.requires.target) s.1 (g.met.D.Disk.as_read mid.disk) c.in-Err-write_root.ensures.writes));
      same = goes (g.D.Disk.moment old.disk).state (g.D.Disk.moment mid.disk).state (g.D.Disk.moment new.disk).state c.in-Ok.ensures.writes.same c.in-Err-write_root.ensures.writes.same;
      cause = cause_on (g.D.Disk.moment old.disk).state (g.D.Disk.moment mid.disk).state (g.D.Disk.moment new.disk).state c.in-Ok.ensures.writes.same c.in-Err-write_root.ensures.cause;
    }

pub returns-in-Ok-write_root : goal.returns-in-Ok-write_root
returns-in-Ok-write_root g c =
    let old = c.args.file.now in
    let mid = c.write_base_pages.new.file in
    let new = c.write_root.new.self in
    let m0 = g.D.Disk.moment old.disk in
    let m1 = g.D.Disk.moment mid.disk in
    let m2 = g.D.Disk.moment new.disk in
    let pages = base_pages c.args.blobs.now c.args.chain.now c.args.log in
    record {
      slots = root_written old.slots mid.slots new.slots (roots.Written c.root.result) (roots.Written (root_of c.args.sequence c.args.chain.now c.args.log)) (Some c.args.log) c.in-Ok.ensures.slots c.in-Ok.ensures.zeroed c.in-Ok-write_root.ensures.slots (ap roots.Written c.root.ensures);
      known = stays_known old.slots new.slots m0 m2 (goes m0.state m1.state m2.state c.in-Ok.ensures.writes.same c.in-Ok-write_root.ensures.writes.same)
          (sound_on old.slots mid.slots new.slots m0.state m1.state m2.state m0.may_leave m1.may_leave m2.may_leave c.in-Ok.ensures.writes.same c.in-Ok.ensures.sound c.in-Ok-write_root.ensures.sound);
      goes = λ seen known.
          let s = stays_known old.slots mid.slots m0 m1 c.in-Ok.ensures.writes.same c.in-Ok.ensures.sound seen known in
          filled_goes old.slots mid.slots (base_pages c.args.blobs.now c.args.chain.now c.args.log) seen s.0 m0 m1 m2 c.requires.target c.requires.closed c.requires.free c.in-Ok.ensures.slots known s.1 (g.met.D.Disk.as_read mid.disk)
          c.in-Ok.ensures.writes c.in-Ok-write_root.ensures.writes c.in-Ok-write_root.ensures.opens;
      holds = λ seen known.
          let s = stays_known old.slots mid.slots m0 m1 c.in-Ok.ensures.writes.same c.in-Ok.ensures.sound seen known in
          let x = at_some m0.state.seen seen (λ y. (now : List ℕ) × (m1.state.seen ≡ Some now) × HoldsAll now c.args.blobs.now c.args.chain.now) known.tells (c.in-Ok.ensures.holds known.honest) in
          put_holds 0 c.args.blobs.now c.args.chain.now x.0 m1 m2 s.1.honest x.1 (first_of (commit_pages c.args.blobs.now c.args.chain.now) (c.args.log ∷ []) 0 c.requires.free.apart) x.2
          (body_keeps mid.slots s.0 m1 m2 (ap (λ (t : Slots). t.target) c.in-Ok.ensures.slots ∙ c.requires.target) s.1 (g.met.D.Disk.as_read mid.disk) c.in-Ok-write_root.ensures.writes) c.in-Ok-write_root.ensures.durable;
      seen = λ seen known.
          let page : ℕ = 0 in
          let s = stays_known old.slots mid.slots m0 m1 c.in-Ok.ensures.writes.same c.in-Ok.ensures.sound seen known in
          let first = reread_of pages seen old.slots m0 m1 known c.in-Ok.ensures.seen in
          reread_then pages (page ∷ []) (page ∷ pages) seen first.0 s.0 m1 m2 (second_of (page ∷ []) pages) (first_of (page ∷ []) pages) first.1 s.1.tells first.2
          (reread_of (page ∷ []) s.0 mid.slots m1 m2 s.1 (body_keeps mid.slots s.0 m1 m2 (ap (λ (t : Slots). t.target) c.in-Ok.ensures.slots ∙ c.requires.target) s.1 (g.met.D.Disk.as_read mid.disk) c.in-Ok-write_root.ensures.writes));
      same = goes (g.D.Disk.moment old.disk).state (g.D.Disk.moment mid.disk).state (g.D.Disk.moment new.disk).state c.in-Ok.ensures.writes.same c.in-Ok-write_root.ensures.writes.same;
      cause = tt;
    }

pub returns-in-Err : goal.returns-in-Err
returns-in-Err g c =
    let old = c.args.file.now in
    let mid = c.write_base_pages.new.file in
    let pages = base_pages c.args.blobs.now c.args.chain.now c.args.log in
    record {
      slots = root_unfilled old.slots mid.slots c.requires.closed c.requires.target c.in-Err.ensures.slots;
      known = stays_known old.slots mid.slots (g.D.Disk.moment old.disk) (g.D.Disk.moment mid.disk) c.in-Err.ensures.writes.same c.in-Err.ensures.sound;
      goes = λ seen known.
          pages_more old.slots (base_pages c.args.blobs.now c.args.chain.now c.args.log) seen (g.D.Disk.moment old.disk) (g.D.Disk.moment mid.disk) known c.requires.closed c.requires.free c.in-Err.ensures.writes;
      holds = tt;
      seen = λ seen known.
          let page : ℕ = 0 in
          let first = reread_of pages seen old.slots (g.D.Disk.moment old.disk) (g.D.Disk.moment mid.disk) known c.in-Err.ensures.seen in
          (first.0, first.1, keeps_more pages (page ∷ pages) seen first.0 (second_of (page ∷ []) pages) first.2);
      same = c.in-Err.ensures.writes.same;
      cause = c.in-Err.ensures.cause;
    }
