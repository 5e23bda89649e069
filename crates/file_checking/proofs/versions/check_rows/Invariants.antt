use Rattle.std.proofs.Common.{◌≡◌, ℕ, List, Some, drop}
use Rattle.std.specs.List.{AllZip}
use Rattle.page_chain.specs.Inner.Runs.{OnlyReads}
use Rattle.file_checking.specs.Inner.Steps.{IsRowOf}
use Rattle.file_checking.proofs.Tests.{RowsGo}
use Rattle.file_checking.proofs.versions.check_rows.Given as goal

abbrev pub invariant-loop-array : goal.invariant-loop-array
invariant-loop-array g l = record {
  reads : OnlyReads (g.D.Disk.moment l.fn.file.disk) (g.D.Disk.moment l.file.disk);
  each : AllZip IsRowOf (drop l.array-index l.arrays) l.left;
  told : (seen : List ℕ) → (g.D.Disk.moment l.fn.file.disk).state.seen ≡ Some seen → RowsGo seen l.arrays l.rows l.array-index l.left l.fn.wrong l.wrong;
}
