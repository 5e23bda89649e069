use Rattle.std.specs.List.{flat_map}
use Rattle.array_rows.specs.Rows.{in_order}
use Rattle.array_geom.specs.Geometry.{overlaps}
use Rattle.array_geom.specs.Link.{chunk_rows}
use Rattle.chunk_source.proofs.AssembledLaws.{all_held_are_read, all_standing_are_read}
use Rattle.chunk_source.proofs.leaves.parts.arrays.part_array.Goals as goal

pub returns-then-alone-clause-read : goal.returns-then-alone-clause-read
returns-then-alone-clause-read c =
    let stand = c.as_they_stand.ensures in
    all_standing_are_read c.args.schema.now c.args.chunks c.requires.valid c.requires.chunks c.requires.rise c.as_they_stand.result stand.schema stand.margins stand.whole stand.chunks

pub returns-else-alone-clause-read : goal.returns-else-alone-clause-read
returns-else-alone-clause-read c =
    let dims = c.args.schema.now.dimensions in
    all_held_are_read c.args.schema.now (in_order (flat_map (chunk_rows dims (overlaps dims)) c.args.chunks)) c.assembled.result c.assembled.ensures.array c.assembled.ensures.margins
