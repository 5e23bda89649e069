use Rattle.std.proofs.Common.{◌≡◌, ◌⊎◌, inl, inr, ⊎_elim, ℕ, List, [], ◌∷◌, Some, true, Option, sym, ◌∙◌, ap, subst}
use Rattle.afl_outside.specs.Disk.{Only}
use Rattle.page_chain.specs.Opens.{OpensAs}
use Rattle.page_chain.specs.Places.{IsNone, KeepsPages}
use Rattle.page_chain.proofs.RunLemmas.{goes}
use Rattle.page_chain.specs.Standing.{target_page, IsTarget, MayOpen}
use Rattle.page_chain.specs.Steps.{emptied, with_record}
use Rattle.page_chain.specs.declared.slots.slots.slots.Slots.{Slots}
use Rattle.page_chain.specs.declared.slots.slots.slots.Target.{Target}
use Rattle.page_chain.specs.declared.slots.slots.slots.NextEntry.TheVariants as entries
use Rattle.page_chain.proofs.Kept.{keeps_more}
use Rattle.page_file.specs.Commits.{commit_pages, record_of}
use Rattle.page_file.specs.Moments.{HasRecord, cleared}
use Rattle.page_file.specs.Inner.Going.{Goes}
use Rattle.page_file.proofs.Kept.{at_some}
use Rattle.page_file.proofs.BlobLemmas.{all_on, may_second, first_of}
use Rattle.page_file.proofs.GoingLemmas.{closing_is, during_is, image_of, left_is, reread_then}
use Rattle.page_file.proofs.RecordLemmas.{sealed_goes, shut_on}
use Rattle.page_file.proofs.SlotLemmas.{cause_on, shut_record}
use Rattle.page_file.proofs.commits.records.commit_record.Goals as goal

pub open_record-requires : goal.open_record-requires
open_record-requires g c = record {
  apart = let is1 = shut_record c.args.file.now.slots c.close.new.file.slots c.requires.target c.in-Ok.ensures.slots in
      let is2 = c.in-Ok-fill_record.ensures.slots in
      let P = λ (s : Slots). IsNone (commit_pages c.args.blobs.now c.args.chain.now) s.current.root.log in
      subst P (sym is2) (subst P (sym is1) c.requires.free.log);
  written = ap (λ (s : Slots). s.next) c.in-Ok-fill_record.ensures.slots;
  there = let is1 = shut_record c.args.file.now.slots c.close.new.file.slots c.requires.target c.in-Ok.ensures.slots in
      let is2 = c.in-Ok-fill_record.ensures.slots in
      subst IsTarget (sym is2) (subst IsTarget (sym is1) c.requires.there);
  sure = let is1 = shut_record c.args.file.now.slots c.close.new.file.slots c.requires.target c.in-Ok.ensures.slots in
      let is2 = c.in-Ok-fill_record.ensures.slots in
      ap (λ (s : Slots). s.doubtful) is2 ∙ ap (λ (s : Slots). s.doubtful) is1;
  target = let is1 = shut_record c.args.file.now.slots c.close.new.file.slots c.requires.target c.in-Ok.ensures.slots in
      let is2 = c.in-Ok-fill_record.ensures.slots in
      ap (λ (s : Slots). s.target) is2 ∙ ap (λ (s : Slots). s.target) is1 ∙ c.requires.target;
}

pub fill_record-requires : goal.fill_record-requires
fill_record-requires g c = record {
  sized = c.requires.sized;
  chain = c.requires.chain;
  closed = c.in-Ok.ensures.closed;
  free = let is1 = shut_record c.args.file.now.slots c.close.new.file.slots c.requires.target c.in-Ok.ensures.slots in
      may_second [] (commit_pages c.args.blobs.now c.args.chain.now) c.args.file.now.slots c.close.new.file.slots (ap (λ (s : Slots). s.current) is1) c.requires.free;
  there = let is1 = shut_record c.args.file.now.slots c.close.new.file.slots c.requires.target c.in-Ok.ensures.slots in
      subst IsTarget (sym is1) c.requires.there;
  target = let is1 = shut_record c.args.file.now.slots c.close.new.file.slots c.requires.target c.in-Ok.ensures.slots in
      ap (λ (s : Slots). s.target) is1 ∙ c.requires.target;
}

pub returns-in-Ok-open_record : goal.returns-in-Ok-open_record
returns-in-Ok-open_record g c =
    let old = c.args.file.now in
    let s1 = c.close.new.file in
    let m0 = g.D.Disk.moment old.disk in
    let m1 = g.D.Disk.moment s1.disk in
    let blobs = c.args.blobs.now in
    let chain = c.args.chain.now in
    let pages = commit_pages blobs chain in
    let log = old.slots.current.root.log in
    let s2 = c.fill_record.new.file in
    let m2 = g.D.Disk.moment s2.disk in
    let is1 = shut_record old.slots s1.slots c.requires.target c.in-Ok.ensures.slots in
    let s3 = c.open_record.new.file in
    let is2 = c.in-Ok-fill_record.ensures.slots in
    let page = c.args.file.now.slots.current.root.log in
    record {
      done = let m3 = g.D.Disk.moment s3.disk in
          record {
            slots_are = c.in-Ok-open_record.ensures.slots ∙ ap (λ (s : Slots). with_record (record_of chain) s) (is2 ∙ ap (λ (s : Slots). record (emptied s) { next = entries.Written (record_of chain); zeroed = s2.slots.zeroed }) is1);
            images = λ seen known x left.
                let g1 = subst (λ (t : Target). Goes (target_page t old.slots ∷ []) (MayOpen old.slots) m0 m1) c.requires.target (c.in-Ok.ensures.goes seen known) in
                let k1 = c.in-Ok.ensures.known seen known in
                let k2 = c.in-Ok-fill_record.ensures.known k1.0 k1.1 in
                let holds = c.in-Ok-fill_record.ensures.holds k1.0 k1.1 in
                let g3 = sealed_goes old.slots s1.slots s2.slots blobs chain s2.slots.zeroed m1 m2 m3 is1 is2 (c.in-Ok-fill_record.ensures.goes k1.0 k1.1) (c.in-Ok-open_record.ensures.goes k2.0 k2.1 holds) in
                let has = c.in-Ok-open_record.ensures.done k2.0 k2.1 holds x left in
                let h = left_is log pages (MayOpen old.slots) (λ y. OpensAs old.slots.current old.slots.records y ⊎ HasRecord old.slots blobs chain y) m0 m1 m3 (g.met.D.Disk.counts_now s3.disk) g1 g3 x left in
                (h.0, subst (λ (s : Slots). HasRecord s blobs chain x) is1 (subst (λ (s : Slots). HasRecord s blobs chain x) is2 has));
          };
      failed = tt;
      known = λ seen known.
          let k1 = c.in-Ok.ensures.known seen known in
          let k2 = c.in-Ok-fill_record.ensures.known k1.0 k1.1 in
          c.in-Ok-open_record.ensures.known k2.0 k2.1;
      during = λ seen known.
          let m3 = g.D.Disk.moment s3.disk in
          let g1 = subst (λ (t : Target). Goes (target_page t old.slots ∷ []) (MayOpen old.slots) m0 m1) c.requires.target (c.in-Ok.ensures.goes seen known) in
          let k1 = c.in-Ok.ensures.known seen known in
          let k2 = c.in-Ok-fill_record.ensures.known k1.0 k1.1 in
          let holds = c.in-Ok-fill_record.ensures.holds k1.0 k1.1 in
          let g3 = sealed_goes old.slots s1.slots s2.slots blobs chain s2.slots.zeroed m1 m2 m3 is1 is2 (c.in-Ok-fill_record.ensures.goes k1.0 k1.1) (c.in-Ok-open_record.ensures.goes k2.0 k2.1 holds) in
          during_is log pages old.slots (HasRecord old.slots blobs chain) (λ y. OpensAs old.slots.current old.slots.records y ⊎ HasRecord old.slots blobs chain y) m0 m1 m3 (λ x h. h) g1 g3;
      durable = λ seen known.
          let m3 = g.D.Disk.moment s3.disk in
          let k1 = c.in-Ok.ensures.known seen known in
          let k2 = c.in-Ok-fill_record.ensures.known k1.0 k1.1 in
          at_some m2.state.seen k2.0 (λ y. (now : List ℕ) × (m3.state.seen ≡ Some now) × Only now m3.may_leave) k2.1.tells (c.in-Ok-open_record.ensures.durable k2.1.honest);
      seen = λ seen known.
          let r1 = subst (λ (t : Target). (now : List ℕ) × (m1.state.seen ≡ Some now) × KeepsPages (target_page t old.slots ∷ []) seen now) c.requires.target (c.in-Ok.ensures.seen seen known) in
          let k1 = c.in-Ok.ensures.known seen known in
          let r2 = reread_then (page ∷ []) (page ∷ pages) (page ∷ pages) seen r1.0 k1.0 m1 m2 (first_of (page ∷ []) pages) (λ n none. none) r1.1 k1.1.tells r1.2
          (subst (λ (s : Slots). (now : List ℕ) × (m2.state.seen ≡ Some now) × KeepsPages (s.current.root.log ∷ pages) k1.0 now) is1 (c.in-Ok-fill_record.ensures.seen k1.0 k1.1)) in
          let m3 = g.D.Disk.moment s3.disk in
          let k2 = c.in-Ok-fill_record.ensures.known k1.0 k1.1 in
          reread_then (page ∷ pages) (page ∷ []) (page ∷ pages) seen r2.0 k2.0 m2 m3 (λ n none. none) (first_of (page ∷ []) pages) r2.1 k2.1.tells r2.2
          (subst (λ (s : Slots). (now : List ℕ) × (m3.state.seen ≡ Some now) × KeepsPages (s.current.root.log ∷ []) k2.0 now) is1 (subst (λ (s : Slots). (now : List ℕ) × (m3.state.seen ≡ Some now) × KeepsPages (s.current.root.log ∷ []) k2.0 now) is2 (c.in-Ok-open_record.ensures.seen k2.0 k2.1)));
      same = let m3 = g.D.Disk.moment s3.disk in
          goes m0.state m2.state m3.state (goes m0.state m1.state m2.state c.in-Ok.ensures.same c.in-Ok-fill_record.ensures.same) c.in-Ok-open_record.ensures.same;
      cause = tt;
    }

pub returns-in-Err : goal.returns-in-Err
returns-in-Err g c =
    let old = c.args.file.now in
    let s1 = c.close.new.file in
    let m0 = g.D.Disk.moment old.disk in
    let m1 = g.D.Disk.moment s1.disk in
    let blobs = c.args.blobs.now in
    let chain = c.args.chain.now in
    let pages = commit_pages blobs chain in
    let log = old.slots.current.root.log in
    let page = c.args.file.now.slots.current.root.log in
    record {
      done = tt;
      failed = record {
        slots_are = c.in-Err.ensures.slots;
        images = λ seen known x left.
            let g1 = subst (λ (t : Target). Goes (target_page t old.slots ∷ []) (MayOpen old.slots) m0 m1) c.requires.target (c.in-Err.ensures.goes seen known) in
            image_of (log ∷ []) (MayOpen old.slots) m0 m1 (g.met.D.Disk.counts_now s1.disk) g1 x left;
      };
      known = c.in-Err.ensures.known;
      during = λ seen known.
          let g1 = subst (λ (t : Target). Goes (target_page t old.slots ∷ []) (MayOpen old.slots) m0 m1) c.requires.target (c.in-Err.ensures.goes seen known) in
          closing_is log pages old.slots (HasRecord old.slots blobs chain) m0 m1 g1;
      durable = tt;
      seen = λ seen known.
          let r1 = subst (λ (t : Target). (now : List ℕ) × (m1.state.seen ≡ Some now) × KeepsPages (target_page t old.slots ∷ []) seen now) c.requires.target (c.in-Err.ensures.seen seen known) in
          (r1.0, r1.1, keeps_more (page ∷ []) (page ∷ pages) seen r1.0 (first_of (page ∷ []) pages) r1.2);
      same = c.in-Err.ensures.same;
      cause = c.in-Err.ensures.cause;
    }

pub returns-in-Err-fill_record : goal.returns-in-Err-fill_record
returns-in-Err-fill_record g c =
    let old = c.args.file.now in
    let s1 = c.close.new.file in
    let m0 = g.D.Disk.moment old.disk in
    let m1 = g.D.Disk.moment s1.disk in
    let blobs = c.args.blobs.now in
    let chain = c.args.chain.now in
    let pages = commit_pages blobs chain in
    let log = old.slots.current.root.log in
    let s2 = c.fill_record.new.file in
    let m2 = g.D.Disk.moment s2.disk in
    let is1 = shut_record old.slots s1.slots c.requires.target c.in-Ok.ensures.slots in
    let page = c.args.file.now.slots.current.root.log in
    record {
      done = tt;
      failed = record {
        slots_are = c.in-Err-fill_record.ensures.slots ∙ ap (λ (s : Slots). record (emptied s) { next = entries.Closed; doubtful = s2.slots.doubtful; zeroed = s2.slots.zeroed }) is1;
        images = λ seen known x left.
            let g1 = subst (λ (t : Target). Goes (target_page t old.slots ∷ []) (MayOpen old.slots) m0 m1) c.requires.target (c.in-Ok.ensures.goes seen known) in
            let k1 = c.in-Ok.ensures.known seen known in
            let g2 = shut_on old.slots s1.slots pages m1 m2 is1 (c.in-Err-fill_record.ensures.goes k1.0 k1.1) in
            left_is log pages (MayOpen old.slots) (OpensAs old.slots.current old.slots.records) m0 m1 m2 (g.met.D.Disk.counts_now s2.disk) g1 g2 x left;
      };
      known = λ seen known.
          let k1 = c.in-Ok.ensures.known seen known in
          c.in-Err-fill_record.ensures.known k1.0 k1.1;
      during = λ seen known.
          let g1 = subst (λ (t : Target). Goes (target_page t old.slots ∷ []) (MayOpen old.slots) m0 m1) c.requires.target (c.in-Ok.ensures.goes seen known) in
          let k1 = c.in-Ok.ensures.known seen known in
          let g2 = shut_on old.slots s1.slots pages m1 m2 is1 (c.in-Err-fill_record.ensures.goes k1.0 k1.1) in
          during_is log pages old.slots (HasRecord old.slots blobs chain) (OpensAs old.slots.current old.slots.records) m0 m1 m2 (λ x h. inl h) g1 g2;
      durable = tt;
      seen = λ seen known.
          let r1 = subst (λ (t : Target). (now : List ℕ) × (m1.state.seen ≡ Some now) × KeepsPages (target_page t old.slots ∷ []) seen now) c.requires.target (c.in-Ok.ensures.seen seen known) in
          let k1 = c.in-Ok.ensures.known seen known in
          let r2 = reread_then (page ∷ []) (page ∷ pages) (page ∷ pages) seen r1.0 k1.0 m1 m2 (first_of (page ∷ []) pages) (λ n none. none) r1.1 k1.1.tells r1.2
          (subst (λ (s : Slots). (now : List ℕ) × (m2.state.seen ≡ Some now) × KeepsPages (s.current.root.log ∷ pages) k1.0 now) is1 (c.in-Err-fill_record.ensures.seen k1.0 k1.1)) in
          r2;
      same = goes m0.state m1.state m2.state c.in-Ok.ensures.same c.in-Err-fill_record.ensures.same;
      cause = cause_on m0.state m1.state m2.state c.in-Ok.ensures.same c.in-Err-fill_record.ensures.cause;
    }

pub returns-in-Err-open_record : goal.returns-in-Err-open_record
returns-in-Err-open_record g c =
    let old = c.args.file.now in
    let s1 = c.close.new.file in
    let m0 = g.D.Disk.moment old.disk in
    let m1 = g.D.Disk.moment s1.disk in
    let blobs = c.args.blobs.now in
    let chain = c.args.chain.now in
    let pages = commit_pages blobs chain in
    let log = old.slots.current.root.log in
    let s2 = c.fill_record.new.file in
    let m2 = g.D.Disk.moment s2.disk in
    let is1 = shut_record old.slots s1.slots c.requires.target c.in-Ok.ensures.slots in
    let s3 = c.open_record.new.file in
    let is2 = c.in-Ok-fill_record.ensures.slots in
    let P = λ (s : Slots). IsNone pages s.current.root.log in
    let apart = subst P (sym is2) (subst P (sym is1) c.requires.free.log) in
    let is3 = c.in-Err-open_record.ensures.slots in
    let page = c.args.file.now.slots.current.root.log in
    record {
      done = tt;
      failed = let m3 = g.D.Disk.moment s3.disk in
          record {
            slots_are = is3 ∙ ap (λ (s : Slots). record s { next = entries.Opening (record_of chain); doubtful = true }) (is2 ∙ ap (λ (s : Slots). record (emptied s) { next = entries.Written (record_of chain); zeroed = s2.slots.zeroed }) is1)
                ∙ ap (λ (z : Option ℕ). record (cleared old.slots) { next = entries.Opening (record_of chain); doubtful = true; zeroed = z }) (sym (ap (λ (s : Slots). s.zeroed) is3));
            images = λ seen known x left.
                let g1 = subst (λ (t : Target). Goes (target_page t old.slots ∷ []) (MayOpen old.slots) m0 m1) c.requires.target (c.in-Ok.ensures.goes seen known) in
                let k1 = c.in-Ok.ensures.known seen known in
                let k2 = c.in-Ok-fill_record.ensures.known k1.0 k1.1 in
                let holds = c.in-Ok-fill_record.ensures.holds k1.0 k1.1 in
                let opened = c.in-Err-open_record.ensures.goes k2.0 k2.1 holds in
                let g3 = sealed_goes old.slots s1.slots s2.slots blobs chain s2.slots.zeroed m1 m2 m3 is1 is2 (c.in-Ok-fill_record.ensures.goes k1.0 k1.1) opened in
                let over = opened.crash x left in
                let h = left_is log pages (MayOpen old.slots) (λ y. OpensAs old.slots.current old.slots.records y ⊎ HasRecord old.slots blobs chain y) m0 m1 m3 (g.met.D.Disk.counts_now s3.disk) g1 g3 x left in
                (all_on s2.slots.current.root.log blobs chain over.0 x apart over.2 (holds over.0 over.1), ⊎_elim (λ o. inl (h.0, o)) (λ n. inr (h.0, n)) h.1);
          };
      known = λ seen known.
          let k1 = c.in-Ok.ensures.known seen known in
          let k2 = c.in-Ok-fill_record.ensures.known k1.0 k1.1 in
          c.in-Err-open_record.ensures.known k2.0 k2.1;
      during = λ seen known.
          let m3 = g.D.Disk.moment s3.disk in
          let g1 = subst (λ (t : Target). Goes (target_page t old.slots ∷ []) (MayOpen old.slots) m0 m1) c.requires.target (c.in-Ok.ensures.goes seen known) in
          let k1 = c.in-Ok.ensures.known seen known in
          let k2 = c.in-Ok-fill_record.ensures.known k1.0 k1.1 in
          let holds = c.in-Ok-fill_record.ensures.holds k1.0 k1.1 in
          let g3 = sealed_goes old.slots s1.slots s2.slots blobs chain s2.slots.zeroed m1 m2 m3 is1 is2 (c.in-Ok-fill_record.ensures.goes k1.0 k1.1) (c.in-Err-open_record.ensures.goes k2.0 k2.1 holds) in
          during_is log pages old.slots (HasRecord old.slots blobs chain) (λ y. OpensAs old.slots.current old.slots.records y ⊎ HasRecord old.slots blobs chain y) m0 m1 m3 (λ x h. h) g1 g3;
      durable = tt;
      seen = λ seen known.
          let r1 = subst (λ (t : Target). (now : List ℕ) × (m1.state.seen ≡ Some now) × KeepsPages (target_page t old.slots ∷ []) seen now) c.requires.target (c.in-Ok.ensures.seen seen known) in
          let k1 = c.in-Ok.ensures.known seen known in
          let r2 = reread_then (page ∷ []) (page ∷ pages) (page ∷ pages) seen r1.0 k1.0 m1 m2 (first_of (page ∷ []) pages) (λ n none. none) r1.1 k1.1.tells r1.2
          (subst (λ (s : Slots). (now : List ℕ) × (m2.state.seen ≡ Some now) × KeepsPages (s.current.root.log ∷ pages) k1.0 now) is1 (c.in-Ok-fill_record.ensures.seen k1.0 k1.1)) in
          let m3 = g.D.Disk.moment s3.disk in
          let k2 = c.in-Ok-fill_record.ensures.known k1.0 k1.1 in
          reread_then (page ∷ pages) (page ∷ []) (page ∷ pages) seen r2.0 k2.0 m2 m3 (λ n none. none) (first_of (page ∷ []) pages) r2.1 k2.1.tells r2.2
          (subst (λ (s : Slots). (now : List ℕ) × (m3.state.seen ≡ Some now) × KeepsPages (s.current.root.log ∷ []) k2.0 now) is1 (subst (λ (s : Slots). (now : List ℕ) × (m3.state.seen ≡ Some now) × KeepsPages (s.current.root.log ∷ []) k2.0 now) is2 (c.in-Err-open_record.ensures.seen k2.0 k2.1)));
      same = let m3 = g.D.Disk.moment s3.disk in
          goes m0.state m2.state m3.state (goes m0.state m1.state m2.state c.in-Ok.ensures.same c.in-Ok-fill_record.ensures.same) c.in-Err-open_record.ensures.same;
      cause = let m3 = g.D.Disk.moment s3.disk in
          cause_on m0.state m1.state m3.state c.in-Ok.ensures.same (cause_on m1.state m2.state m3.state c.in-Ok-fill_record.ensures.same c.in-Err-open_record.ensures.cause);
    }
