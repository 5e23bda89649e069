use Rattle.std.proofs.Common.{◌≡◌, take}
use Rattle.std.specs.List.{flat_map}
use Rattle.logical_plan.specs.Meaning.{version_rows}
use Rattle.chunk_source.specs.Source.{Keeps}
use Rattle.backup_format.specs.Pieces.{piece_of}
use Rattle.backup_format.specs.Spelling.{spell_piece}
use Rattle.backup_writing.specs.Writing.{Wrote}
use Rattle.backup_writing.proofs.pieces.write_pieces.Given as goal

abbrev pub invariant-loop-at : goal.invariant-loop-at
invariant-loop-at g l = record {
  kept : Keeps (g.S.ChunkSource.state l.fn.source) (g.S.ChunkSource.state l.source);
  start : g.S.ChunkSource.start l.source ≡ g.S.ChunkSource.start l.fn.source;
  wrote : Wrote g.K.Sink.state (g.S.ChunkSource.state l.fn.source).tells
      (λ db. flat_map (λ at. spell_piece (piece_of l.leaf.schema (version_rows db l.leaf.name l.leaf.version) at.items)) (take l.at-index l.numbers)) l.fn.out l.out;
}
