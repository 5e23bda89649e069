use Rattle.std.proofs.Common.{◌≡◌, ◌<◌, ◌⊎◌, inl, inr, ⊎_elim, ℕ, List, [], ◌∷◌, Some, true, Option, sym, ◌∙◌, ap, subst}
use Rattle.afl_outside.specs.Disk.{Only}
use Rattle.page_chain.specs.Opens.{OpensAs}
use Rattle.page_chain.proofs.RunLemmas.{goes}
use Rattle.page_chain.specs.Standing.{target_page, MayOpen}
use Rattle.page_chain.specs.Steps.{emptied, with_root}
use Rattle.page_chain.specs.declared.slots.slots.slots.Slots.{Slots}
use Rattle.page_chain.specs.declared.slots.slots.slots.Target.{Target}
use Rattle.page_chain.specs.declared.slots.slots.slots.RootSlot.TheVariants as roots
use Rattle.page_chain.specs.Places.{KeepsPages}
use Rattle.page_chain.proofs.Kept.{keeps_more}
use Rattle.page_file.specs.Commits.{base_pages, commit_pages, root_of}
use Rattle.page_file.specs.Moments.{HasBase, MayHaveBase, cleared}
use Rattle.page_file.specs.Inner.Going.{Goes}
use Rattle.page_file.proofs.Kept.{at_some, root_there}
use Rattle.page_file.proofs.BlobLemmas.{all_on, first_of, may_second}
use Rattle.page_file.proofs.GoingLemmas.{closing_is, during_is, image_of, left_is, reread_then}
use Rattle.page_file.proofs.BaseLemmas.{sealed_goes, shut_base, shut_on}
use Rattle.page_file.proofs.SlotLemmas.{cause_on}
use Rattle.page_file.proofs.commits.bases.commit_base.Goals as goal

pub fill_base-requires : goal.fill_base-requires
fill_base-requires g c = record {
  target = let is1 = shut_base c.args.file.now.slots c.close.new.file.slots c.requires.target c.in-Ok.ensures.slots in
      ap (λ (s : Slots). s.target) is1 ∙ c.requires.target;
  chain = c.requires.chain;
  free = let is1 = shut_base c.args.file.now.slots c.close.new.file.slots c.requires.target c.in-Ok.ensures.slots in
      may_second [] (base_pages c.args.blobs.now c.args.chain.now c.args.log) c.args.file.now.slots c.close.new.file.slots (ap (λ (s : Slots). s.current) is1) c.requires.free;
  sized = c.requires.sized;
  closed = c.in-Ok.ensures.closed;
  newer = let is1 = shut_base c.args.file.now.slots c.close.new.file.slots c.requires.target c.in-Ok.ensures.slots in
      subst (λ (s : Slots). s.current.root.sequence < c.args.sequence) (sym is1) c.requires.newer;
}

pub open_base-requires : goal.open_base-requires
open_base-requires g c = record {
  sure = let is1 = shut_base c.args.file.now.slots c.close.new.file.slots c.requires.target c.in-Ok.ensures.slots in
      let is2 = c.in-Ok-fill_base.ensures.slots in
      ap (λ (s : Slots). s.doubtful) is2 ∙ ap (λ (s : Slots). s.doubtful) is1;
  zeroed = ap (λ (s : Slots). s.zeroed) c.in-Ok-fill_base.ensures.slots;
  apart = first_of (commit_pages c.args.blobs.now c.args.chain.now) (c.args.log ∷ []) 0 c.requires.free.apart;
  target = let is1 = shut_base c.args.file.now.slots c.close.new.file.slots c.requires.target c.in-Ok.ensures.slots in
      let is2 = c.in-Ok-fill_base.ensures.slots in
      ap (λ (s : Slots). s.target) is2 ∙ ap (λ (s : Slots). s.target) is1 ∙ c.requires.target;
  written = ap (λ (s : Slots). s.other) c.in-Ok-fill_base.ensures.slots;
}

pub close-requires : goal.close-requires
close-requires g c = root_there c.args.file.now.slots c.requires.target

pub returns-in-Err-fill_base : goal.returns-in-Err-fill_base
returns-in-Err-fill_base g c =
    let old = c.args.file.now in
    let s1 = c.close.new.file in
    let m0 = g.D.Disk.moment old.disk in
    let m1 = g.D.Disk.moment s1.disk in
    let blobs = c.args.blobs.now in
    let chain = c.args.chain.now in
    let log = c.args.log in
    let sequence = c.args.sequence in
    let s2 = c.fill_base.new.file in
    let m2 = g.D.Disk.moment s2.disk in
    let is1 = shut_base old.slots s1.slots c.requires.target c.in-Ok.ensures.slots in
    record {
      done = tt;
      failed = let pages = base_pages blobs chain log in
          record {
            slots_are = c.in-Err-fill_base.ensures.slots ∙ ap (λ (s : Slots). record (emptied s) { other = roots.Closed; doubtful = s2.slots.doubtful; zeroed = s2.slots.zeroed }) is1;
            images = λ seen known x left.
                let g1 = subst (λ (t : Target). Goes (target_page t old.slots ∷ []) (MayOpen old.slots) m0 m1) c.requires.target (c.in-Ok.ensures.goes seen known) in
                let k1 = c.in-Ok.ensures.known seen known in
                let g2 = shut_on old.slots s1.slots pages m1 m2 is1 (c.in-Err-fill_base.ensures.goes k1.0 k1.1) in
                left_is 0 pages (MayOpen old.slots) (OpensAs old.slots.current old.slots.records) m0 m1 m2 (g.met.D.Disk.counts_now s2.disk) g1 g2 x left;
          };
      known = λ seen known.
          let k1 = c.in-Ok.ensures.known seen known in
          c.in-Err-fill_base.ensures.known k1.0 k1.1;
      during = λ seen known.
          let pages = base_pages blobs chain log in
          let g1 = subst (λ (t : Target). Goes (target_page t old.slots ∷ []) (MayOpen old.slots) m0 m1) c.requires.target (c.in-Ok.ensures.goes seen known) in
          let k1 = c.in-Ok.ensures.known seen known in
          let g2 = shut_on old.slots s1.slots pages m1 m2 is1 (c.in-Err-fill_base.ensures.goes k1.0 k1.1) in
          during_is 0 pages old.slots (MayHaveBase old.slots blobs chain sequence log) (OpensAs old.slots.current old.slots.records) m0 m1 m2 (λ x h. inl h) g1 g2;
      durable = tt;
      seen = λ seen known.
          let page : ℕ = 0 in
          let pages = base_pages blobs chain log in
          let r1 = subst (λ (t : Target). (now : List ℕ) × (m1.state.seen ≡ Some now) × KeepsPages (target_page t old.slots ∷ []) seen now) c.requires.target (c.in-Ok.ensures.seen seen known) in
          let k1 = c.in-Ok.ensures.known seen known in
          let r2 = reread_then (page ∷ []) (page ∷ pages) (page ∷ pages) seen r1.0 k1.0 m1 m2 (first_of (page ∷ []) pages) (λ n none. none) r1.1 k1.1.tells r1.2
          (c.in-Err-fill_base.ensures.seen k1.0 k1.1) in
          r2;
      same = let pages = base_pages blobs chain log in
          goes m0.state m1.state m2.state c.in-Ok.ensures.same c.in-Err-fill_base.ensures.same;
      cause = let pages = base_pages blobs chain log in
          cause_on m0.state m1.state m2.state c.in-Ok.ensures.same c.in-Err-fill_base.ensures.cause;
    }

pub returns-in-Err : goal.returns-in-Err
returns-in-Err g c =
    let old = c.args.file.now in
    let s1 = c.close.new.file in
    let m0 = g.D.Disk.moment old.disk in
    let m1 = g.D.Disk.moment s1.disk in
    let blobs = c.args.blobs.now in
    let chain = c.args.chain.now in
    let log = c.args.log in
    let sequence = c.args.sequence in
    record {
      done = tt;
      failed = let pages = base_pages blobs chain log in
          record {
            slots_are = c.in-Err.ensures.slots;
            images = λ seen known x left.
                let g1 = subst (λ (t : Target). Goes (target_page t old.slots ∷ []) (MayOpen old.slots) m0 m1) c.requires.target (c.in-Err.ensures.goes seen known) in
                image_of (0 ∷ []) (MayOpen old.slots) m0 m1 (g.met.D.Disk.counts_now s1.disk) g1 x left;
          };
      known = c.in-Err.ensures.known;
      during = λ seen known.
          let pages = base_pages blobs chain log in
          let g1 = subst (λ (t : Target). Goes (target_page t old.slots ∷ []) (MayOpen old.slots) m0 m1) c.requires.target (c.in-Err.ensures.goes seen known) in
          closing_is 0 pages old.slots (MayHaveBase old.slots blobs chain sequence log) m0 m1 g1;
      durable = tt;
      seen = λ seen known.
          let page : ℕ = 0 in
          let pages = base_pages blobs chain log in
          let r1 = subst (λ (t : Target). (now : List ℕ) × (m1.state.seen ≡ Some now) × KeepsPages (target_page t old.slots ∷ []) seen now) c.requires.target (c.in-Err.ensures.seen seen known) in
          (r1.0, r1.1, keeps_more (page ∷ []) (page ∷ pages) seen r1.0 (first_of (page ∷ []) pages) r1.2);
      same = c.in-Err.ensures.same;
      cause = c.in-Err.ensures.cause;
    }

pub returns-in-Err-open_base : goal.returns-in-Err-open_base
returns-in-Err-open_base g c =
    let old = c.args.file.now in
    let s1 = c.close.new.file in
    let m0 = g.D.Disk.moment old.disk in
    let m1 = g.D.Disk.moment s1.disk in
    let blobs = c.args.blobs.now in
    let chain = c.args.chain.now in
    let log = c.args.log in
    let sequence = c.args.sequence in
    let s2 = c.fill_base.new.file in
    let m2 = g.D.Disk.moment s2.disk in
    let is1 = shut_base old.slots s1.slots c.requires.target c.in-Ok.ensures.slots in
    let s3 = c.open_base.new.file in
    let is2 = c.in-Ok-fill_base.ensures.slots in
    let apart = first_of (commit_pages blobs chain) (log ∷ []) 0 c.requires.free.apart in
    let is3 = c.in-Err-open_base.ensures.slots in
    record {
      done = tt;
      failed = let pages = base_pages blobs chain log in
          let m3 = g.D.Disk.moment s3.disk in
          record {
            slots_are = is3 ∙ ap (λ (s : Slots). record s { other = roots.Opening (root_of sequence chain log); doubtful = true }) (is2 ∙ ap (λ (s : Slots). record (emptied s) { other = roots.Written (root_of sequence chain log); zeroed = Some log }) is1)
                ∙ ap (λ (z : Option ℕ). record (cleared old.slots) { other = roots.Opening (root_of sequence chain log); doubtful = true; zeroed = z }) (sym (ap (λ (s : Slots). s.zeroed) is3 ∙ ap (λ (s : Slots). s.zeroed) is2));
            images = λ seen known x left.
                let g1 = subst (λ (t : Target). Goes (target_page t old.slots ∷ []) (MayOpen old.slots) m0 m1) c.requires.target (c.in-Ok.ensures.goes seen known) in
                let k1 = c.in-Ok.ensures.known seen known in
                let k2 = c.in-Ok-fill_base.ensures.known k1.0 k1.1 in
                let holds = c.in-Ok-fill_base.ensures.holds k1.0 k1.1 in
                let opened = c.in-Err-open_base.ensures.goes k2.0 k2.1 holds in
                let g3 = sealed_goes old.slots s1.slots s2.slots blobs chain sequence log (Some log) m1 m2 m3 is1 is2 (c.in-Ok-fill_base.ensures.goes k1.0 k1.1) opened in
                let over = opened.crash x left in
                let h = left_is 0 pages (MayOpen old.slots) (λ y. OpensAs old.slots.current old.slots.records y ⊎ MayHaveBase old.slots blobs chain sequence log y) m0 m1 m3 (g.met.D.Disk.counts_now s3.disk) g1 g3 x left in
                (all_on 0 blobs chain over.0 x apart over.2 (holds over.0 over.1), ⊎_elim (λ o. inl (h.0, o)) (λ n. inr (h.0, n)) h.1);
          };
      known = λ seen known.
          let k1 = c.in-Ok.ensures.known seen known in
          let k2 = c.in-Ok-fill_base.ensures.known k1.0 k1.1 in
          c.in-Err-open_base.ensures.known k2.0 k2.1;
      during = λ seen known.
          let pages = base_pages blobs chain log in
          let m3 = g.D.Disk.moment s3.disk in
          let g1 = subst (λ (t : Target). Goes (target_page t old.slots ∷ []) (MayOpen old.slots) m0 m1) c.requires.target (c.in-Ok.ensures.goes seen known) in
          let k1 = c.in-Ok.ensures.known seen known in
          let k2 = c.in-Ok-fill_base.ensures.known k1.0 k1.1 in
          let holds = c.in-Ok-fill_base.ensures.holds k1.0 k1.1 in
          let g3 = sealed_goes old.slots s1.slots s2.slots blobs chain sequence log (Some log) m1 m2 m3 is1 is2 (c.in-Ok-fill_base.ensures.goes k1.0 k1.1) (c.in-Err-open_base.ensures.goes k2.0 k2.1 holds) in
          during_is 0 pages old.slots (MayHaveBase old.slots blobs chain sequence log) (λ y. OpensAs old.slots.current old.slots.records y ⊎ MayHaveBase old.slots blobs chain sequence log y) m0 m1 m3 (λ x h. h) g1 g3;
      durable = tt;
      seen = λ seen known.
          let page : ℕ = 0 in
          let pages = base_pages blobs chain log in
          let r1 = subst (λ (t : Target). (now : List ℕ) × (m1.state.seen ≡ Some now) × KeepsPages (target_page t old.slots ∷ []) seen now) c.requires.target (c.in-Ok.ensures.seen seen known) in
          let k1 = c.in-Ok.ensures.known seen known in
          let r2 = reread_then (page ∷ []) (page ∷ pages) (page ∷ pages) seen r1.0 k1.0 m1 m2 (first_of (page ∷ []) pages) (λ n none. none) r1.1 k1.1.tells r1.2
          (c.in-Ok-fill_base.ensures.seen k1.0 k1.1) in
          let m3 = g.D.Disk.moment s3.disk in
          let k2 = c.in-Ok-fill_base.ensures.known k1.0 k1.1 in
          reread_then (page ∷ pages) (page ∷ []) (page ∷ pages) seen r2.0 k2.0 m2 m3 (λ n none. none) (first_of (page ∷ []) pages) r2.1 k2.1.tells r2.2
          (c.in-Err-open_base.ensures.seen k2.0 k2.1);
      same = let pages = base_pages blobs chain log in
          let m3 = g.D.Disk.moment s3.disk in
          goes m0.state m2.state m3.state (goes m0.state m1.state m2.state c.in-Ok.ensures.same c.in-Ok-fill_base.ensures.same) c.in-Err-open_base.ensures.same;
      cause = let pages = base_pages blobs chain log in
          let m3 = g.D.Disk.moment s3.disk in
          cause_on m0.state m1.state m3.state c.in-Ok.ensures.same (cause_on m1.state m2.state m3.state c.in-Ok-fill_base.ensures.same c.in-Err-open_base.ensures.cause);
    }

pub returns-in-Ok-open_base : goal.returns-in-Ok-open_base
returns-in-Ok-open_base g c =
    let old = c.args.file.now in
    let s1 = c.close.new.file in
    let m0 = g.D.Disk.moment old.disk in
    let m1 = g.D.Disk.moment s1.disk in
    let blobs = c.args.blobs.now in
    let chain = c.args.chain.now in
    let log = c.args.log in
    let sequence = c.args.sequence in
    let s2 = c.fill_base.new.file in
    let m2 = g.D.Disk.moment s2.disk in
    let is1 = shut_base old.slots s1.slots c.requires.target c.in-Ok.ensures.slots in
    let s3 = c.open_base.new.file in
    let is2 = c.in-Ok-fill_base.ensures.slots in
    record {
      done = let pages = base_pages blobs chain log in
          let m3 = g.D.Disk.moment s3.disk in
          record {
            slots_are = c.in-Ok-open_base.ensures.slots ∙ ap (λ (s : Slots). with_root (root_of sequence chain log) s) (is2 ∙ ap (λ (s : Slots). record (emptied s) { other = roots.Written (root_of sequence chain log); zeroed = Some log }) is1);
            images = λ seen known x left.
                let g1 = subst (λ (t : Target). Goes (target_page t old.slots ∷ []) (MayOpen old.slots) m0 m1) c.requires.target (c.in-Ok.ensures.goes seen known) in
                let k1 = c.in-Ok.ensures.known seen known in
                let k2 = c.in-Ok-fill_base.ensures.known k1.0 k1.1 in
                let holds = c.in-Ok-fill_base.ensures.holds k1.0 k1.1 in
                let g3 = sealed_goes old.slots s1.slots s2.slots blobs chain sequence log (Some log) m1 m2 m3 is1 is2 (c.in-Ok-fill_base.ensures.goes k1.0 k1.1) (c.in-Ok-open_base.ensures.goes k2.0 k2.1 holds) in
                let has = c.in-Ok-open_base.ensures.done k2.0 k2.1 holds x left in
                let h = left_is 0 pages (MayOpen old.slots) (λ y. OpensAs old.slots.current old.slots.records y ⊎ MayHaveBase old.slots blobs chain sequence log y) m0 m1 m3 (g.met.D.Disk.counts_now s3.disk) g1 g3 x left in
                (h.0, subst (λ (s : Slots). HasBase s blobs chain sequence log x) is1 (subst (λ (s : Slots). HasBase s blobs chain sequence log x) is2 has));
          };
      failed = tt;
      known = λ seen known.
          let k1 = c.in-Ok.ensures.known seen known in
          let k2 = c.in-Ok-fill_base.ensures.known k1.0 k1.1 in
          c.in-Ok-open_base.ensures.known k2.0 k2.1;
      during = λ seen known.
          let pages = base_pages blobs chain log in
          let m3 = g.D.Disk.moment s3.disk in
          let g1 = subst (λ (t : Target). Goes (target_page t old.slots ∷ []) (MayOpen old.slots) m0 m1) c.requires.target (c.in-Ok.ensures.goes seen known) in
          let k1 = c.in-Ok.ensures.known seen known in
          let k2 = c.in-Ok-fill_base.ensures.known k1.0 k1.1 in
          let holds = c.in-Ok-fill_base.ensures.holds k1.0 k1.1 in
          let g3 = sealed_goes old.slots s1.slots s2.slots blobs chain sequence log (Some log) m1 m2 m3 is1 is2 (c.in-Ok-fill_base.ensures.goes k1.0 k1.1) (c.in-Ok-open_base.ensures.goes k2.0 k2.1 holds) in
          during_is 0 pages old.slots (MayHaveBase old.slots blobs chain sequence log) (λ y. OpensAs old.slots.current old.slots.records y ⊎ MayHaveBase old.slots blobs chain sequence log y) m0 m1 m3 (λ x h. h) g1 g3;
      durable = λ seen known.
          let pages = base_pages blobs chain log in
          let m3 = g.D.Disk.moment s3.disk in
          let k1 = c.in-Ok.ensures.known seen known in
          let k2 = c.in-Ok-fill_base.ensures.known k1.0 k1.1 in
          at_some m2.state.seen k2.0 (λ y. (now : List ℕ) × (m3.state.seen ≡ Some now) × Only now m3.may_leave) k2.1.tells (c.in-Ok-open_base.ensures.durable k2.1.honest);
      seen = λ seen known.
          let page : ℕ = 0 in
          let pages = base_pages blobs chain log in
          let r1 = subst (λ (t : Target). (now : List ℕ) × (m1.state.seen ≡ Some now) × KeepsPages (target_page t old.slots ∷ []) seen now) c.requires.target (c.in-Ok.ensures.seen seen known) in
          let k1 = c.in-Ok.ensures.known seen known in
          let r2 = reread_then (page ∷ []) (page ∷ pages) (page ∷ pages) seen r1.0 k1.0 m1 m2 (first_of (page ∷ []) pages) (λ n none. none) r1.1 k1.1.tells r1.2
          (c.in-Ok-fill_base.ensures.seen k1.0 k1.1) in
          let m3 = g.D.Disk.moment s3.disk in
          let k2 = c.in-Ok-fill_base.ensures.known k1.0 k1.1 in
          reread_then (page ∷ pages) (page ∷ []) (page ∷ pages) seen r2.0 k2.0 m2 m3 (λ n none. none) (first_of (page ∷ []) pages) r2.1 k2.1.tells r2.2
          (c.in-Ok-open_base.ensures.seen k2.0 k2.1);
      same = let pages = base_pages blobs chain log in
          let m3 = g.D.Disk.moment s3.disk in
          goes m0.state m2.state m3.state (goes m0.state m1.state m2.state c.in-Ok.ensures.same c.in-Ok-fill_base.ensures.same) c.in-Ok-open_base.ensures.same;
      cause = tt;
    }
