use Rattle.std.proofs.Common.{rules}
use Rattle.array_geom.specs.Inner.Ranges.{IsNear}
use Rattle.array_geom.proofs.Fronts.{all_first, all_rest, room_left, shorter, within}
use Rattle.chunk_cells.proofs.NearFronts.{low_pushed, no_low, no_low_margin, no_low_number}
use Rattle.chunk_cells.proofs.assembly.near.+push_first_near.Goals as goal

pub push_first_near-requires : goal.push_first_near-requires
push_first_near-requires t c =
    let less = shorter c.args.dims.now c.in-len1-up.len_at_least in
    let room = room_left c.args.out.now.items c.push.new.self.items _ c.args.dims.now c.in-len1-up.len_at_least c.push.ensures.items c.requires.room in
    let near = all_rest IsNear c.args.dims.now c.in-len1-up.len_at_least c.requires.near in
    let inside = (within c.d-item.result c.args.dims.now c.args.at.now c.in-len1-up.len_at_least c.in-len1-up-at.len_at_least c.d-item.is
    c.requires.inside).more in
    (search rules, (room, (near, inside)))

pub first_near-requires-clause-high : goal.first_near-requires-clause-high
first_near-requires-clause-high t c =
    let high = (within c.d-item.result c.args.dims.now c.args.at.now c.in-len1-up.len_at_least c.in-len1-up-at.len_at_least c.d-item.is
    c.requires.inside).high in search rules

pub first_near-requires-clause-low : goal.first_near-requires-clause-low
first_near-requires-clause-low t c =
    let low = (within c.d-item.result c.args.dims.now c.args.at.now c.in-len1-up.len_at_least c.in-len1-up-at.len_at_least c.d-item.is
    c.requires.inside).low in search rules

pub first_near-requires-clause-near : goal.first_near-requires-clause-near
first_near-requires-clause-near t c = all_first IsNear c.args.dims.now c.d-item.result c.in-len1-up.len_at_least c.d-item.is c.requires.near

pub returns-in-len1-up-at : goal.returns-in-len1-up-at
returns-in-len1-up-at t c =
    low_pushed c.d-item.result c.args.dims.now c.args.margins.now c.args.at.now _ _ _ _ c.in-len1-up.len_at_least c.in-len1-up-margins.len_at_least
    c.in-len1-up-at.len_at_least c.d-item.is c.push.ensures.items c.push_first_near.ensures (search rules)

pub returns-in-empty-at : goal.returns-in-empty-at
returns-in-empty-at t c = no_low_number c.args.dims.now c.args.margins.now c.args.at.now c.args.out.now.items c.in-empty-at.len_below

pub returns-in-empty-margins : goal.returns-in-empty-margins
returns-in-empty-margins t c = no_low_margin c.args.dims.now c.args.margins.now c.args.at.now c.args.out.now.items c.in-empty-margins.len_below

pub returns-in-empty : goal.returns-in-empty
returns-in-empty t c = no_low c.args.dims.now c.args.margins.now c.args.at.now c.args.out.now.items c.in-empty.len_below
