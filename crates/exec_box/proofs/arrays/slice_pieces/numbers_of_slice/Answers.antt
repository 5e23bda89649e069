use Rattle.array_geom.specs.Geometry.{chunk_of}
use Rattle.logical_plan.specs.BoxOps.{fixed_places, has_fixed, items_but}
use Rattle.exec_box.proofs.ReachLaws.{sorted_reached}
use Rattle.exec_box.proofs.arrays.slice_pieces.numbers_of_slice.Goals as goal

pub returns-clause-reached : goal.returns-clause-reached
returns-clause-reached c =
    let dims = c.args.array.now.schema.dimensions in
    sorted_reached dims c.args.schema.now.dimensions (has_fixed c.args.fixed.now) (λ at. items_but (fixed_places c.args.fixed.now) 0 (chunk_of dims at)) c.args.array.now.chunks c.in_ok-found.found c.in_order.result c.in_ok-found.ensures c.in_order.ensures.listed
