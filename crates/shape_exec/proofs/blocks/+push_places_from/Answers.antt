use Rattle.std.proofs.Common.{rules}
use Rattle.shape_exec.proofs.BlockBoxes.{first_enlarges, places_pushed}
use Rattle.shape_exec.proofs.blocks.+push_places_from.Goals as goal

pub returns-in-len1-up-at : goal.returns-in-len1-up-at
returns-in-len1-up-at t c =
    places_pushed c.args.dims.now c.args.sizes.now c.args.at.now c.d-item.result c.args.out.now.items _ _ _ c.in-len1-up.len_at_least c.in-len1-up-sizes.len_at_least c.in-len1-up-at.len_at_least c.d-item.is
    c.push.ensures.items c.push_places_from.ensures (search rules)

pub place_from-requires : goal.place_from-requires
place_from-requires t c = first_enlarges c.args.dims.now c.args.sizes.now c.in-len1-up.len_at_least c.in-len1-up-sizes.len_at_least c.requires.blocks
