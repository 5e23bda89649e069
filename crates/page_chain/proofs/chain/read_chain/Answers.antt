use Rattle.std.proofs.Common.{◌≡◌, ℕ, ◌+◌, ◌-◌, ◌*◌, List, length, drop, refl, sym, ap, ◌∙◌, arith, length-append, length-drop}
use Rattle.page_chain.specs.Pages.{page_size}
use Rattle.page_chain.specs.Chains.{content_size}
use Rattle.page_chain.proofs.Kept.{size_is}
use Rattle.page_chain.proofs.BlobLemmas.{none_full, one_more_full, all_there}
use Rattle.page_chain.proofs.ChainLemmas.{none_before, chain_begins, chain_fails, chain_goes_on, chain_overrun, chain_whole}
use Rattle.page_chain.proofs.RunLemmas.{reads_none, reads_on, rose_on, ok_no_fault, wrong_no_fault, same_fault}
use Rattle.page_chain.proofs.chain.read_chain.Goals as goal

pub follow-requires : goal.follow-requires
follow-requires g c = omega (arith, size_is)

pub keep_page-requires : goal.keep_page-requires
keep_page-requires g c = omega (arith, size_is)

pub links-init : goal.links-init
links-init g c = record {
  reads = reads_none (g.D.Disk.moment c.args.disk.now).state _ _ (g.met.D.Disk.only_now c.args.disk.now);
  size = none_full (content_size page_size) c.new-bytes.result c.new-bytes.ensures ∙ ap (λ (xs : List ℕ). content_size page_size * length xs) (sym c.new-pages.ensures);
  due = none_before _ _ _ c.new-pages.ensures c.chain_pages-due.ensures;
  told = chain_begins (g.D.Disk.moment c.args.disk.now).state.seen c.args.taken.now c.args.first.holder c.args.first.page c.args.count _ _ _ _
      c.in_ok-used.ensures c.chain_pages-due.ensures c.new-pages.ensures c.new-bytes.ensures;
}

pub returns-in-Err-clause-exact : goal.returns-in-Err-clause-exact
returns-in-Err-clause-exact g c =
    chain_fails (g.D.Disk.moment c.args.disk.now).state.seen (g.D.Disk.moment c.links.disk).state.seen c.args.taken.now c.args.first.holder c.args.first.page c.args.count
    c.links.used c.follow.new.used c.links.link.holder c.links.link.page c.links.due c.links.pages c.links.bytes c.follow.new.piece c.in-Err.cause
    c.links.invariant.reads.seen c.if-count-eq0.false (omega arith) c.in-Err.ensures.exact c.links.invariant.told

pub returns-in-Err-clause-fault : goal.returns-in-Err-clause-fault
returns-in-Err-clause-fault g c = λ is. rose_on _ _ _ c.links.invariant.reads.same.later (c.in-Err.ensures.fault (same_fault _ _ is))

pub returns-in-Err-clause-reads : goal.returns-in-Err-clause-reads
returns-in-Err-clause-reads g c = reads_on _ _ _ _ _ _ _ _ _ c.links.invariant.reads c.in-Err.ensures.reads

pub links-preserved : goal.links-preserved
links-preserved g c =
    let so_far = c.links.invariant in
    let longer : length c.keep_page.new.pages ≡ length c.links.pages + 1 = ap length c.in_ok-keep_page.ensures.pages ∙ length-append c.links.pages _ in
    let more = c.in_ok-keep_page.ensures.bytes in
    let full : length (drop 4 c.follow.new.piece) ≡ page_size - 4 = omega (arith, size_is, length-drop 4 c.follow.new.piece) in
    record {
      reads = reads_on _ _ _ _ _ _ _ _ _ so_far.reads c.in-Ok.ensures.reads;
      size = one_more_full (content_size page_size) c.links.bytes (drop 4 c.follow.new.piece) c.keep_page.new.bytes (length c.links.pages) more full so_far.size ∙ ap (λ (n : ℕ). (page_size - 4) * n) (sym longer);
      due = omega (arith, longer, so_far.due);
      told = chain_goes_on (g.D.Disk.moment c.args.disk.now).state.seen (g.D.Disk.moment c.links.disk).state.seen c.args.taken.now c.args.first.holder c.args.first.page c.args.count
          c.links.used c.follow.new.used c.links.link.holder c.links.link.page c.links.due c.in-Ok.next c.links.pages c.links.bytes c.follow.new.piece c.keep_page.new.pages c.keep_page.new.bytes (c.links.due - 1)
          so_far.reads.seen (omega arith, refl) c.in_ok-keep_page.ensures.pages more c.in-Ok.ensures.exact so_far.told;
    }

pub returns-then-link-ne0-clause-exact : goal.returns-then-link-ne0-clause-exact
returns-then-link-ne0-clause-exact g c =
    chain_overrun (g.D.Disk.moment c.args.disk.now).state.seen c.args.taken.now c.args.first.holder c.args.first.page c.args.count
    c.links.used c.links.link.holder c.links.link.page c.links.due c.links.pages c.links.bytes c.if-count-eq0.false (omega arith) c.if-link-ne0.true c.links.invariant.told

pub returns-then-count-eq0-clause-reads : goal.returns-then-count-eq0-clause-reads
returns-then-count-eq0-clause-reads g c = reads_none (g.D.Disk.moment c.args.disk.now).state _ _ (g.met.D.Disk.only_now c.args.disk.now)

pub returns-then-link-ne0-clause-fault : goal.returns-then-link-ne0-clause-fault
returns-then-link-ne0-clause-fault g c = λ is. wrong_no_fault _ is

pub returns-in_err-keep_page-clause-reads : goal.returns-in_err-keep_page-clause-reads
returns-in_err-keep_page-clause-reads g c = reads_on _ _ _ _ _ _ _ _ _ c.links.invariant.reads c.in-Ok.ensures.reads

pub returns-clause-fault : goal.returns-clause-fault
returns-clause-fault g c = λ is. ok_no_fault _ _ is

pub returns-clause-exact : goal.returns-clause-exact
returns-clause-exact g c =
    chain_whole (g.D.Disk.moment c.args.disk.now).state.seen c.args.taken.now c.args.first.holder c.args.first.page c.args.count
    c.links.used c.links.link.holder c.links.link.page c.links.due c.links.pages c.links.bytes c.truncate.new.self c.if-count-eq0.false (omega arith) c.if-link-ne0.false c.truncate.ensures c.links.invariant.told

pub returns-clause-size : goal.returns-clause-size
returns-clause-size g c =
    let pages : length c.links.pages ≡ length c.links.pages + c.links.due = omega arith in
    ap length c.truncate.ensures
    ∙ all_there (content_size page_size) c.links.bytes (length c.links.pages) c.args.count (omega (arith, size_is)) (pages ∙ c.links.invariant.due) c.links.invariant.size
