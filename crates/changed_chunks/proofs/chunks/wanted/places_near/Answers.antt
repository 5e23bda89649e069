use Rattle.array_geom.proofs.MarginLaws.{few_dimensions}
use Rattle.changed_chunks.proofs.chunks.wanted.places_near.Goals as goal

pub bounds_of-bounds-requires : goal.bounds_of-bounds-requires
bounds_of-bounds-requires c = few_dimensions c.args.schema.now c.as_slice.result.now c.as_slice.ensures c.requires.valid
