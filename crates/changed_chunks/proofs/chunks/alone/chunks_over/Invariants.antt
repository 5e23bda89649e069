use Rattle.std.proofs.Common.{◌≡◌, take}
use Rattle.std.specs.List.{AllByRecursion}
use Rattle.array_rows.specs.Rows.{put_all}
use Rattle.array_geom.specs.Geometry.{overlaps}
use Rattle.array_geom.specs.Link.{IsPart, numbers}
use Rattle.array_parts.specs.Cores.{cores_of}
use Rattle.changed_chunks.specs.Inner.Input.{stored_rows}
use Rattle.changed_chunks.proofs.chunks.alone.chunks_over.Given as goal

abbrev pub invariant-loop-new : goal.invariant-loop-new
invariant-loop-new l = (numbers l.made ≡ numbers (take l.new-index l.new-items))
    × AllByRecursion (IsPart l.put.schema.dimensions (overlaps l.put.schema.dimensions) (put_all (cores_of l.put) (stored_rows l.put.schema l.old))) l.made
