use Rattle.std.proofs.Common.{◌≡◌, ℕ, ◌*◌, length, refl, ap, ◌∙◌, arith}
use Rattle.std.specs.Prelude.{Err}
use Rattle.page_chain.specs.Pages.{page_size}
use Rattle.page_chain.specs.declared.fault.Stopped.{Stopped}
use Rattle.page_chain.proofs.Kept.{size_is}
use Rattle.page_chain.proofs.BlobLemmas.{blob_starts, blob_stops, blob_goes_on, blob_done, none_full, one_more_full, all_there}
use Rattle.page_chain.proofs.RunLemmas.{reads_none, reads_on, some_unit, rose_on, damage_no_fault, blob_want_no_fault}
use Rattle.page_chain.proofs.blob.read_blob.Goals as goal

pub read_page-requires : goal.read_page-requires
read_page-requires g c = omega (arith, size_is)

pub returns-in-Ok-false-clause-exact : goal.returns-in-Ok-false-clause-exact
returns-in-Ok-false-clause-exact g c =
    blob_stops (g.D.Disk.moment c.args.disk.now).state.seen (g.D.Disk.moment c.loop-page.disk).state.seen c.args.pages.now c.loop-page.page-index _ c.in-Ok-false.field-0 c.loop-page.bytes
    c.loop-page.invariant.reads.seen c.loop-page-test.true refl c.in-Ok-false.field-0-test c.in-Ok-false.ensures.whole c.loop-page.invariant.told

pub loop-page-preserved : goal.loop-page-preserved
loop-page-preserved g c =
    let so_far = c.loop-page.invariant in
    let i = c.loop-page.page-index in
    let more = c.in_ok-extend-in-Ok-true.ensures.ok in
    let full : length c.read_page.new.piece ≡ page_size = omega (arith, size_is) in
    record {
      reads = reads_on _ _ _ _ _ _ _ _ _ so_far.reads c.in-Ok-true.ensures.reads;
      size = one_more_full page_size c.loop-page.bytes c.read_page.new.piece c.extend.new.self i more full so_far.size;
      told = blob_goes_on (g.D.Disk.moment c.args.disk.now).state.seen (g.D.Disk.moment c.loop-page.disk).state.seen c.args.pages.now i _ c.in-Ok-true.field-0 c.read_page.new.piece c.loop-page.bytes c.extend.new.self
          so_far.reads.seen c.loop-page-test.true refl c.in-Ok-true.field-0-test c.in-Ok-true.ensures.whole c.in-Ok-true.ensures.bytes more so_far.told;
    }

pub loop-page-init : goal.loop-page-init
loop-page-init g c = record {
  reads = reads_none (g.D.Disk.moment c.args.disk.now).state _ _ (g.met.D.Disk.only_now c.args.disk.now);
  size = none_full page_size c.new-bytes.result c.new-bytes.ensures;
  told = blob_starts (g.D.Disk.moment c.args.disk.now).state.seen c.new-bytes.result c.new-bytes.ensures;
}

pub returns-in-Ok-false-clause-fault : goal.returns-in-Ok-false-clause-fault
returns-in-Ok-false-clause-fault g c = λ is. damage_no_fault _ is

pub returns-in-Ok-false-clause-reads : goal.returns-in-Ok-false-clause-reads
returns-in-Ok-false-clause-reads g c = reads_on _ _ _ _ _ _ _ _ _ c.loop-page.invariant.reads c.in-Ok-false.ensures.reads

pub returns-in-Err-Disk-clause-exact : goal.returns-in-Err-Disk-clause-exact
returns-in-Err-Disk-clause-exact g c = some_unit (g.D.Disk.moment c.args.disk.now).state.seen

pub returns-in-Err-Disk-clause-fault : goal.returns-in-Err-Disk-clause-fault
returns-in-Err-Disk-clause-fault g c =
    λ is. rose_on _ _ _ c.loop-page.invariant.reads.same.later (c.in-Err-Disk.ensures.fault (ap (λ (e : Stopped). Err e) c.in-Err-Disk.field-0-is))

pub returns-in-Err-Disk-clause-reads : goal.returns-in-Err-Disk-clause-reads
returns-in-Err-Disk-clause-reads g c = reads_on _ _ _ _ _ _ _ _ _ c.loop-page.invariant.reads c.in-Err-Disk.ensures.reads

pub returns-in-Err-Memory-clause-exact : goal.returns-in-Err-Memory-clause-exact
returns-in-Err-Memory-clause-exact g c = some_unit (g.D.Disk.moment c.args.disk.now).state.seen

pub returns-in-Err-Memory-clause-fault : goal.returns-in-Err-Memory-clause-fault
returns-in-Err-Memory-clause-fault g c = λ is. blob_want_no_fault is

pub returns-in-Err-Memory-clause-reads : goal.returns-in-Err-Memory-clause-reads
returns-in-Err-Memory-clause-reads g c = reads_on _ _ _ _ _ _ _ _ _ c.loop-page.invariant.reads c.in-Err-Memory.ensures.reads

pub returns-clause-exact : goal.returns-clause-exact
returns-clause-exact g c =
    blob_done (g.D.Disk.moment c.args.disk.now).state.seen c.args.pages.now c.loop-page.page-index c.args.count c.loop-page.bytes c.truncate.new.self
    c.loop-page-test.false c.truncate.ensures c.loop-page.invariant.told

pub returns-clause-size : goal.returns-clause-size
returns-clause-size g c =
    let all : c.loop-page.page-index ≡ length c.args.pages.now = omega arith in
    ap length c.truncate.ensures
    ∙ all_there page_size c.loop-page.bytes (length c.args.pages.now) c.args.count (omega (arith, size_is)) c.requires (c.loop-page.invariant.size ∙ ap (λ (n : ℕ). page_size * n) all)
