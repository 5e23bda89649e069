use Rattle.std.proofs.Common.{◌≡◌, ◌&&◌, nat_eq, take}
use Rattle.std.specs.List.{filter}
use Rattle.event_core.specs.History.{is_pages_of}
use Rattle.store_versions.specs.LeanRows.{standing}
use Rattle.store_versions.proofs.lean.lean.rows.standing_pages.Given as goal

abbrev pub invariant-loop-row : goal.invariant-loop-row
invariant-loop-row l = l.pages ≡ filter (λ v. is_pages_of l.name v && nat_eq v.version l.number) (standing (take l.row-index l.rows))
