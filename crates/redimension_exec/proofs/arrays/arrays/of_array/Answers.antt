use Rattle.std.proofs.Common.{◌<◌, ◌^◌, List, length, subst}
use Rattle.array_geom.specs.declared.chunk.Chunk.{Chunk}
use Rattle.array_geom.specs.Link.{core_rows}
use Rattle.redimension_exec.proofs.arrays.arrays.of_array.Goals as goal

pub of_bands-made-requires-clause-counted : goal.of_bands-made-requires-clause-counted
of_bands-made-requires-clause-counted c =
    let array = c.args.array in
    subst (λ (cs : List Chunk). length (core_rows array.schema.dimensions array.margins.items cs) < 2 ^ 63) c.as_slice.ensures (c.are_few.ensures c.if-not-are_few.false array.schema.dimensions array.margins.items)
