use Rattle.std.proofs.Common.{◌≡◌, ℕ, List}
use Rattle.page_chain.specs.Inner.Runs.{OnlyReads}
use Rattle.file_reading.specs.Reading.{AreDirectories}
use Rattle.file_reading.specs.Inner.Rows.{IsRowBeside, rules_of}
use Rattle.file_reading.specs.Inner.Taken.{LeavesBeside}
use Rattle.file_reading.proofs.RowLaws.{GoingRows, Zipping}
use Rattle.file_reading.proofs.directories.read_rows.Given as goal

-- the first arrays' directories were read, and all are what is read behind them
abbrev pub invariant-loop-array : goal.invariant-loop-array
invariant-loop-array g l = record {
  slots : l.file.slots ≡ l.fn.file.slots;
  reads : OnlyReads (g.D.Disk.moment l.fn.file.disk) (g.D.Disk.moment l.file.disk);
  each : Zipping AreDirectories l.catalog.arrays l.array-index l.rows;
  beside : (tells others : List ℕ) → LeavesBeside tells l.fn.taken others → LeavesBeside tells l.taken others × Zipping (IsRowBeside others) l.catalog.arrays l.array-index l.rows;
  told : GoingRows (rules_of l.base) l.catalog.arrays (g.D.Disk.moment l.fn.file.disk).state.seen l.fn.taken l.array-index l.rows l.taken;
}
