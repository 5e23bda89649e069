use Rattle.std.proofs.Common.{◌≡◌, ℕ, List, length}
use Rattle.std.specs.List.{AllByRecursion}
use Rattle.page_chain.specs.Inner.Runs.{OnlyReads}
use Rattle.chunk_map.specs.Spelling.{IsDirectory}
use Rattle.file_reading.specs.Inner.Rows.{rules_of}
use Rattle.file_reading.specs.Inner.Taken.{LeavesBeside}
use Rattle.file_reading.proofs.BesideLaws.{RowGoes}
use Rattle.file_reading.proofs.RowLaws.{GoingRow}
use Rattle.file_reading.proofs.directories.read_row.Given as goal

-- the first directories were read, and the row is what is read behind them
abbrev pub invariant-loop-at : goal.invariant-loop-at
invariant-loop-at g l = record {
  slots : l.file.slots ≡ l.fn.file.slots;
  reads : OnlyReads (g.D.Disk.moment l.fn.file.disk) (g.D.Disk.moment l.file.disk);
  count : length l.row ≡ l.at-index;
  each : AllByRecursion (IsDirectory (length l.array.entry.schema.dimensions)) l.row;
  told : GoingRow (record { rules = rules_of l.base; dims = l.array.entry.schema.dimensions; blobs = l.array.directories }) (g.D.Disk.moment l.fn.file.disk).state.seen l.fn.taken l.at-index l.row l.taken;
  beside : (tells others : List ℕ) → LeavesBeside tells l.fn.taken others → RowGoes tells others l.array.entry.schema.dimensions l.array.directories l.at-index l.row l.taken;
}
