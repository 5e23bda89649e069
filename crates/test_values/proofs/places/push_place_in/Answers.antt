use Rattle.array_geom.proofs.ExampleLaws.{valid_example, bounds_example, frame_example, inside_example}
use Rattle.test_values.proofs.places.push_place_in.Goals as goal

pub chunk_of-found-requires-clause-valid : goal.chunk_of-found-requires-clause-valid
chunk_of-found-requires-clause-valid c = valid_example c.args.schema.now c.requires

pub chunk_of-found-requires-clause-inside : goal.chunk_of-found-requires-clause-inside
chunk_of-found-requires-clause-inside c = bounds_example c.args.schema.now c.at-cell.result.items c.requires c.at-cell.ensures

pub position-number-requires-clause-framed : goal.position-number-requires-clause-framed
position-number-requires-clause-framed c = frame_example c.args.schema.now c.numbers-margins.result.items c.numbers-chunk.result.items c.requires c.numbers-margins.ensures c.numbers-chunk.ensures

pub position-number-requires-clause-inside : goal.position-number-requires-clause-inside
position-number-requires-clause-inside c = inside_example c.args.schema.now c.numbers-margins.result.items c.numbers-chunk.result.items c.at-cell.result.items c.requires c.numbers-margins.ensures c.numbers-chunk.ensures c.at-cell.ensures

pub place-back-requires-clause-framed : goal.place-back-requires-clause-framed
place-back-requires-clause-framed c = frame_example c.args.schema.now c.numbers-margins.result.items c.numbers-chunk.result.items c.requires c.numbers-margins.ensures c.numbers-chunk.ensures
