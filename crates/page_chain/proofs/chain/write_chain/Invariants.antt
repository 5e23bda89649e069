use Rattle.std.proofs.Common.{◌≡◌, ◌*◌, drop}
use Rattle.page_chain.specs.Pages.{page_size}
use Rattle.page_chain.specs.Chains.{content_size, chain_piece}
use Rattle.page_chain.specs.Inner.Runs.{OnlyWrites, Sees}
use Rattle.page_chain.proofs.WriteLemmas.{WroteSoFar}
use Rattle.page_chain.proofs.chain.write_chain.Given as goal

-- the first pages have their pieces, and no other page was written
abbrev pub invariant-loop-i : goal.invariant-loop-i
invariant-loop-i g l = record {
  writes : OnlyWrites l.pages (g.D.Disk.moment l.fn.disk) (g.D.Disk.moment l.disk);
  seen : Sees (g.D.Disk.moment l.fn.disk).state (g.D.Disk.moment l.disk).state (WroteSoFar l.pages (chain_piece page_size l.pages l.bytes) l.i);
  rest : l.rest ≡ drop (l.i * content_size page_size) l.bytes;
}
