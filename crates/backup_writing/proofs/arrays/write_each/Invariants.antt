use Rattle.std.proofs.Common.{◌≡◌, take}
use Rattle.std.specs.List.{flat_map}
use Rattle.chunk_source.specs.Source.{Keeps}
use Rattle.backup_format.specs.Spelling.{spell_array}
use Rattle.backup_writing.specs.Writing.{array_pieces, Wrote}
use Rattle.backup_writing.proofs.arrays.write_each.Given as goal

abbrev pub invariant-loop-entry : goal.invariant-loop-entry
invariant-loop-entry g l = record {
  kept : Keeps (g.S.ChunkSource.state l.fn.source) (g.S.ChunkSource.state l.source);
  start : g.S.ChunkSource.start l.source ≡ g.S.ChunkSource.start l.fn.source;
  wrote : Wrote g.K.Sink.state (g.S.ChunkSource.state l.fn.source).tells (λ db. flat_map (λ entry. spell_array (array_pieces db entry)) (take l.entry-index l.entries)) l.fn.out l.out;
}
