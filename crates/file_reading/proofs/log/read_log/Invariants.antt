use Rattle.std.proofs.Common.{◌≡◌, ℕ, List, ◌++◌, length}
use Rattle.page_chain.specs.Inner.Runs.{OnlyReads}
use Rattle.version_catalog.specs.Catalogs.{IsCatalog}
use Rattle.file_meaning.specs.Opening.{all_of}
use Rattle.file_reading.specs.Inner.Taken.{HaveAll}
use Rattle.file_reading.proofs.LogLaws.{GoingLog}
use Rattle.file_reading.proofs.log.read_log.Given as goal

-- the first records were read, and the log is what is read behind them
abbrev pub invariant-loop-number : goal.invariant-loop-number
invariant-loop-number g l = record {
  slots : l.file.slots ≡ l.fn.file.slots;
  reads : OnlyReads (g.D.Disk.moment l.fn.file.disk) (g.D.Disk.moment l.file.disk);
  rules : IsCatalog l.catalog;
  held : (others : List ℕ) → HaveAll l.fn.taken (others ++ all_of l.fn.logged) → HaveAll l.taken (others ++ all_of l.logged);
  count : l.count ≡ length l.fn.file.slots.records;
  told : GoingLog l.fn.file.slots (g.D.Disk.moment l.fn.file.disk).state.seen (record { taken = l.fn.taken; catalog = l.fn.catalog; logged = l.fn.logged }) l.number
      (record { taken = l.taken; catalog = l.catalog; logged = l.logged });
}
