use Rattle.std.proofs.Common.{◌≡◌, take}
use Rattle.std.specs.FinSet.{from_list}
use Rattle.page_chain.proofs.page_set.PageSet.of.Given as goal

-- the set of the first pages
abbrev pub invariant-loop-page : goal.invariant-loop-page
invariant-loop-page l = l.s ≡ from_list (take l.page-index l.pages)
