use Rattle.array_geom.proofs.ExampleLaws.{valid_example}
use Rattle.test_values.proofs.places.push_meeting.Goals as goal

pub chunks_meeting-requires : goal.chunks_meeting-requires
chunks_meeting-requires c = valid_example c.args.schema.now c.requires
