use Rattle.std.proofs.Common.{◌≡◌, ◌+◌, ℕ, List, length, map}
use Rattle.array_geom.specs.Geometry.{overlaps}
use Rattle.array_geom.specs.Link.{core_rows}
use Rattle.file_checking.specs.Inner.Steps.{payload_in}
use Rattle.file_checking.proofs.Chunks.{OverlapsLeft}
use Rattle.file_checking.proofs.overlaps.first_wrong.Given as goal

abbrev pub invariant-loop-entry : goal.invariant-loop-entry
invariant-loop-entry l = record {
  each : length l.left + l.entry-index ≡ length l.entries;
  told : (file : List ℕ) → l.payloads ≡ map (payload_in file) l.entries → OverlapsLeft file l.schema (core_rows l.schema.dimensions (overlaps l.schema.dimensions) l.chunks) l.entries l.entry-index l.left;
}
