use Rattle.std.proofs.Common.{◌≡◌, ◌++◌, not, take}
use Rattle.std.specs.List.{filter}
use Rattle.version_reaper.specs.PageSets.{holds}
use Rattle.event_core.proofs.commit.push_fresh.Given as goal

abbrev pub invariant-loop-page : goal.invariant-loop-page
invariant-loop-page l = l.fresh ≡ l.fn.fresh ++ filter (λ page. not (holds l.known page)) (take l.page-index l.page-items)
