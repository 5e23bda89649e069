use Rattle.changed_chunks.proofs.Reach.{first_inside, frame_there, last_inside}
use Rattle.changed_chunks.proofs.chunks.wanted.reach.Goals as goal

pub chunk_of-first-requires-clause-inside : goal.chunk_of-first-requires-clause-inside
chunk_of-first-requires-clause-inside c = first_inside c.args.schema.now c.args.margins.now.items c.args.number.now.items c.requires c.places_near-near.result c.places_near-near.ensures

pub chunk_of-last-requires-clause-inside : goal.chunk_of-last-requires-clause-inside
chunk_of-last-requires-clause-inside c = last_inside c.args.schema.now c.args.margins.now.items c.args.number.now.items c.requires c.places_near-near.result c.places_near-near.ensures

pub frame-lo-requires : goal.frame-lo-requires
frame-lo-requires c =
    let near = c.places_near-near.result in
    frame_there c.args.schema.now c.args.margins.now.items c.args.number.now.items c.chunk_of-first.result.items near.lo.items c.requires
    (first_inside c.args.schema.now c.args.margins.now.items c.args.number.now.items c.requires near c.places_near-near.ensures) c.chunk_of-first.ensures

pub frame-hi-requires : goal.frame-hi-requires
frame-hi-requires c =
    let near = c.places_near-near.result in
    frame_there c.args.schema.now c.args.margins.now.items c.args.number.now.items c.chunk_of-last.result.items near.hi.items c.requires
    (last_inside c.args.schema.now c.args.margins.now.items c.args.number.now.items c.requires near c.places_near-near.ensures) c.chunk_of-last.ensures
