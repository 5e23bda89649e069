use Rattle.std.proofs.Common.{◌≡◌, [], length}
use Rattle.std.specs.List.{AllByRecursion}
use Rattle.chunk_map.specs.Entries.{AreRising}
use Rattle.file_meaning.specs.Opening.{is_seen}
use Rattle.file_reading.specs.Inner.Rows.{entries_of}
use Rattle.file_reading.proofs.entries.is_seen.Given as goal

-- the entry is among those that are left where it is among all
abbrev pub invariant-loop-last : goal.invariant-loop-last
invariant-loop-last l = record {
  rising : AllByRecursion (λ directory. AreRising directory.entries) l.left;
  same : is_seen (entries_of [] l.left) l.entry ≡ is_seen (entries_of [] l.before) l.entry;
}

abbrev pub decreases-loop-last : goal.decreases-loop-last
decreases-loop-last l = length l.left
