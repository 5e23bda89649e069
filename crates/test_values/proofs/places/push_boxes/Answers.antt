use Rattle.array_geom.proofs.ExampleLaws.{range_example}
use Rattle.test_values.proofs.places.push_boxes.Goals as goal

pub shift-moved-requires : goal.shift-moved-requires
shift-moved-requires c = range_example c.at-lo.result.items c.at-hi.result.items c.at-by.result.items c.at-lo.ensures c.at-hi.ensures c.at-by.ensures
