use Rattle.std.proofs.Common.{◌≡◌}
use Rattle.changed_chunks.proofs.Tracing.{HasTraced}
use Rattle.changed_chunks.proofs.traces.lines.push_lines.Given as goal

abbrev pub invariant-loop-place : goal.invariant-loop-place
invariant-loop-place g l =
    HasTraced (g.S.ChunkSource.state l.fn.source) (g.S.ChunkSource.state l.source) l.leaves l.boxes l.place l.fn.lines l.lines × (g.S.ChunkSource.start l.source ≡ g.S.ChunkSource.start l.fn.source)
