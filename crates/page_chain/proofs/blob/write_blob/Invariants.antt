use Rattle.std.proofs.Common.{◌≡◌, ◌*◌, drop}
use Rattle.page_chain.specs.Pages.{page_size, piece_of}
use Rattle.page_chain.specs.Inner.Runs.{OnlyWrites, Sees}
use Rattle.page_chain.proofs.WriteLemmas.{WroteSoFar}
use Rattle.page_chain.proofs.blob.write_blob.Given as goal

-- the first pages have their pieces, and no other page was written
abbrev pub invariant-loop-page : goal.invariant-loop-page
invariant-loop-page g l = record {
  writes : OnlyWrites l.pages (g.D.Disk.moment l.fn.disk) (g.D.Disk.moment l.disk);
  seen : Sees (g.D.Disk.moment l.fn.disk).state (g.D.Disk.moment l.disk).state (WroteSoFar l.pages (piece_of page_size l.bytes) l.page-index);
  rest : l.rest ≡ drop (l.page-index * page_size) l.bytes;
}
