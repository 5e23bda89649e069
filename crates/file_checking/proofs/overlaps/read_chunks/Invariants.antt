use Rattle.std.proofs.Common.{◌≡◌, ℕ, List, Some, length, take}
use Rattle.std.specs.List.{AllByRecursion}
use Rattle.page_chain.specs.Inner.Runs.{OnlyReads}
use Rattle.array_geom.specs.Link.{numbers}
use Rattle.chunk_rle.specs.Stored.{IsStored}
use Rattle.chunk_map.specs.Entries.{numbers as entry_numbers}
use Rattle.file_checking.proofs.Chunks.{ChunksSoFar}
use Rattle.file_checking.proofs.overlaps.read_chunks.Given as goal

abbrev pub invariant-loop-entry : goal.invariant-loop-entry
invariant-loop-entry g l = record {
  reads : OnlyReads (g.D.Disk.moment l.fn.file.disk) (g.D.Disk.moment l.file.disk);
  told : (seen : List ℕ) → (g.D.Disk.moment l.fn.file.disk).state.seen ≡ Some seen → ChunksSoFar seen l.schema l.entries l.entry-index l.chunks l.payloads;
  stored : AllByRecursion (IsStored l.schema) l.chunks;
  numbers : numbers l.chunks ≡ entry_numbers (take l.entry-index l.entries);
  each : length l.payloads ≡ length (take l.entry-index l.entries);
}
