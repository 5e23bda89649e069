use Rattle.std.proofs.Common.{◌≡◌, take}
use Rattle.std.specs.List.{flat_map}
use Rattle.chunk_source.specs.Source.{Keeps}
use Rattle.backup_format.specs.Pieces.{version_of}
use Rattle.backup_format.specs.Spelling.{spell_version}
use Rattle.backup_writing.specs.Writing.{version_in, Wrote}
use Rattle.backup_writing.proofs.arrays.write_versions.Given as goal

abbrev pub invariant-loop-version : goal.invariant-loop-version
invariant-loop-version g l = record {
  kept : Keeps (g.S.ChunkSource.state l.fn.source) (g.S.ChunkSource.state l.source);
  start : g.S.ChunkSource.start l.source ≡ g.S.ChunkSource.start l.fn.source;
  wrote : Wrote g.K.Sink.state (g.S.ChunkSource.state l.fn.source).tells
      (λ db. flat_map (λ n. spell_version (version_of l.entry.schema (version_in l.entry.name db n))) (take l.version-index l.entry.versions)) l.fn.out l.out;
}
