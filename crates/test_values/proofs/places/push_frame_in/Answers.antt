use Rattle.array_geom.proofs.ExampleLaws.{valid_example, core_example, frame_example}
use Rattle.test_values.proofs.places.push_frame_in.Goals as goal

pub core_box-core-requires-clause-valid : goal.core_box-core-requires-clause-valid
core_box-core-requires-clause-valid c = valid_example c.args.schema.now c.requires

pub core_box-core-requires-clause-core : goal.core_box-core-requires-clause-core
core_box-core-requires-clause-core c = core_example c.args.schema.now c.numbers-chunk.result.items c.requires c.numbers-chunk.ensures

pub frame-frame-requires : goal.frame-frame-requires
frame-frame-requires c = frame_example c.args.schema.now c.numbers-margins.result.items c.numbers-chunk.result.items c.requires c.numbers-margins.ensures c.numbers-chunk.ensures
