use Rattle.std.proofs.Common.{◌≡◌, ℕ, List, Some}
use Rattle.page_chain.specs.Inner.Runs.{OnlyReads}
use Rattle.file_checking.proofs.Tests.{RowGoes}
use Rattle.file_checking.proofs.versions.check_row.Given as goal

abbrev pub invariant-loop-directory : goal.invariant-loop-directory
invariant-loop-directory g l = record {
  reads : OnlyReads (g.D.Disk.moment l.fn.file.disk) (g.D.Disk.moment l.file.disk);
  told : (seen : List ℕ) → (g.D.Disk.moment l.fn.file.disk).state.seen ≡ Some seen → RowGoes seen l.schema l.row l.directory-index l.fn.wrong l.wrong;
}
