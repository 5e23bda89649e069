use Rattle.std.proofs.Common.{◌≡◌, ◌-◌}
use Rattle.backup_restoring.specs.Inner.Layout.{pages_from}
use Rattle.backup_restoring.proofs.pages.pages_from.Given as goal

abbrev pub invariant-loop-page : goal.invariant-loop-page
invariant-loop-page l = l.pages ≡ pages_from l.first (l.page - l.first)
