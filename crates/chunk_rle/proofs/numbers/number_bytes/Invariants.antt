use Rattle.std.proofs.Common.{◌≡◌, ◌++◌}
use Rattle.std.specs.List.{flat_map}
use Rattle.std.specs.Int.{w64}
use Rattle.file_items.specs.Items.{spell_counted}
use Rattle.chunk_rle.specs.Chunks.{columns_of}
use Rattle.chunk_rle.specs.Longest.{position_runs}
use Rattle.chunk_rle.specs.Spelling.{spell_column, spell_position_run}
use Rattle.chunk_rle.proofs.numbers.number_bytes.Given as goal

abbrev pub invariant-loop-k : goal.invariant-loop-k
invariant-loop-k l = l.out ≡ spell_counted w64 spell_position_run (position_runs l.chunk.positions) ++ flat_map spell_column (columns_of l.k 0 l.chunk.cells)
