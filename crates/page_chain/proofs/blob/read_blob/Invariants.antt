use Rattle.std.proofs.Common.{◌≡◌, ◌*◌, length, take}
use Rattle.std.specs.Prelude.{IfSome}
use Rattle.page_chain.specs.Pages.{page_size}
use Rattle.page_chain.specs.Inner.Runs.{OnlyReads}
use Rattle.page_chain.proofs.BlobLemmas.{BlobSoFar}
use Rattle.page_chain.proofs.blob.read_blob.Given as goal

-- the first pages are there, and their bytes were kept
abbrev pub invariant-loop-page : goal.invariant-loop-page
invariant-loop-page g l = record {
  reads : OnlyReads (g.D.Disk.moment l.fn.disk) (g.D.Disk.moment l.disk);
  size : length l.bytes ≡ page_size * l.page-index;
  told : IfSome (g.D.Disk.moment l.fn.disk).state.seen (λ seen. BlobSoFar seen (take l.page-index l.pages) l.bytes);
}
