use Rattle.std.proofs.Common.{◌≡◌, ℕ, List, Some}
use Rattle.page_chain.specs.Inner.Runs.{OnlyReads}
use Rattle.file_checking.specs.Checks.{test_payload}
use Rattle.file_checking.specs.Inner.Steps.{IsSmall}
use Rattle.file_checking.proofs.Tests.{Left}
use Rattle.file_checking.proofs.payloads.read_payloads.Given as goal

abbrev pub invariant-loop-entry : goal.invariant-loop-entry
invariant-loop-entry g l = record {
  reads : OnlyReads (g.D.Disk.moment l.fn.file.disk) (g.D.Disk.moment l.file.disk);
  told : (seen : List ℕ) → (g.D.Disk.moment l.fn.file.disk).state.seen ≡ Some seen → Left (test_payload seen l.schema) (IsSmall seen) l.entries l.entry-index;
}
