use Rattle.std.proofs.Common.{◌≡◌, ◌++◌, take}
use Rattle.result_print.specs.Listings.{numbered, version_line}
use Rattle.result_print.proofs.listings.write_versions.Given as goal

abbrev pub invariant-loop-at : goal.invariant-loop-at
invariant-loop-at l = l.out ≡ l.initial.out ++ numbered version_line 1 (take l.at l.versions)
