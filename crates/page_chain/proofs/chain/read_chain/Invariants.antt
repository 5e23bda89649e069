use Rattle.std.proofs.Common.{◌≡◌, ◌*◌, ◌+◌, length}
use Rattle.std.specs.Prelude.{IfSome}
use Rattle.page_chain.specs.Pages.{page_size, pages_for}
use Rattle.page_chain.specs.Chains.{content_size}
use Rattle.page_chain.specs.Inner.Runs.{OnlyReads}
use Rattle.page_chain.proofs.ChainLemmas.{ChainSoFar}
use Rattle.page_chain.proofs.chain.read_chain.Given as goal

-- the links were followed so far, and the content of their pages was kept
abbrev pub invariant-links : goal.invariant-links
invariant-links g l = record {
  reads : OnlyReads (g.D.Disk.moment l.fn.disk) (g.D.Disk.moment l.disk);
  size : length l.bytes ≡ content_size page_size * length l.pages;
  due : length l.pages + l.due ≡ pages_for (content_size page_size) l.count;
  told : IfSome (g.D.Disk.moment l.fn.disk).state.seen (λ seen. ChainSoFar seen l.taken l.fn.first.holder l.fn.first.page (pages_for (content_size page_size) l.count) l.used l.link.holder l.link.page l.due l.pages l.bytes);
}

abbrev pub decreases-links : goal.decreases-links
decreases-links g l = l.due
