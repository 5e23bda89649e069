use Rattle.std.proofs.Common.{◌<◌, ◌^◌, List, length, subst}
use Rattle.array_geom.specs.declared.chunk.Chunk.{Chunk}
use Rattle.array_geom.specs.Link.{core_rows}
use Rattle.area_cells.proofs.PieceLaws.{rise_in_cores}
use Rattle.redimension_exec.proofs.arrays.cells.filled_from.Goals as goal

pub filled_in_bands-requires-clause-bands : goal.filled_in_bands-requires-clause-bands
filled_in_bands-requires-clause-bands c =
    let array = c.args.array in
    record {
      places = c.requires.cells.placed;
      cores = rise_in_cores array.schema array.margins.items array.chunks c.requires.cells;
      counted = subst (λ (cs : List Chunk). length (core_rows array.schema.dimensions array.margins.items cs) < 2 ^ 63) c.as_slice.ensures (c.are_few.ensures c.if-not-are_few.false array.schema.dimensions array.margins.items);
    }
